-- `bench_text::next_event` meets its contract. A fact of a test is left to a tactic, so that a test that is changed is refused at the fact and not at its name.
use native.Mathlib.Omega.{arith}
use Rattle.bench_text.proofs.RunLaws.{no_room, has_room}
use Rattle.bench_text.proofs.next_event.Goals as goal

pub returns-then-room-lt64 : goal.returns-then-room-lt64
returns-then-room-lt64 c = no_room _ _ c.if-room-lt64.true

pub returns : goal.returns
returns c = has_room _ _ _ (omega arith) c.event_length.ensures
