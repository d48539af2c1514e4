-- `bench_text::run_events` meets its contract: what is run so far and what is left to run are the whole run.
use Prim.Native.Nat.{◌-◌}
use lib.ListN.{length}
use Rattle.bench_text.proofs.RunLaws.{Going}
use Rattle.bench_text.proofs.run_events.Given as goal

abbrev pub invariant-loop-n : goal.invariant-loop-n
invariant-loop-n l = Going l.window l.number l.initial.text l.initial.phys l.initial.permissions l.phys l.permissions l.text l.at l.next l.used

abbrev pub decreases-loop-n : goal.decreases-loop-n
decreases-loop-n l = length l.window - l.at
