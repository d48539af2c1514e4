-- `events::event_length` meets its contract.
use Rattle.events.proofs.EventLaws.{no_header, no_payload, whole_event}
use Rattle.events.proofs.event_length.Goals as goal

pub returns-in_default : goal.returns-in_default
returns-in_default c = search no_header

pub returns-then-payload-length : goal.returns-then-payload-length
returns-then-payload-length c = no_payload _ _ c.in-len5-up.len_at_least c.from_be_bytes-length.ensures c.if-payload-length.true

pub returns : goal.returns
returns c = whole_event _ _ c.in-len5-up.len_at_least c.from_be_bytes-length.ensures c.if-payload-length.false
