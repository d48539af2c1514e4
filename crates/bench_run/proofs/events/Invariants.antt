-- `bench_run::events` is safe and ends.
use Rattle.std.proofs.Common.{◌≤◌, length}
use Rattle.bench_run.proofs.events.Given as goal

abbrev pub invariant-loop : goal.invariant-loop
invariant-loop g l = l.place.have ≤ length l.window
