-- `events::event_line` meets its contract.
use Rattle.events.proofs.EventLaws.{lined}
use Rattle.events.proofs.event_line.Goals as goal

pub returns : goal.returns
returns c = lined _ _ _ _ _ _ _ _ _ _ _ _ _ c.put_decimal-a.ensures c.put_byte-b.ensures c.event_words-c.ensures c.put_byte.ensures
