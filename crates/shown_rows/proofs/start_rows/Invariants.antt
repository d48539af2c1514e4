-- `shown_rows::start_rows` meets its contract: the first k rows are start-up's.
use Prim.Native.Nat.{◌+◌, ◌*◌}
use Rattle.permit.specs.Start.{Between}
use Rattle.shown_rows.specs.Inner.{start_rows}
use Rattle.shown_rows.proofs.start_rows.Given as goal

abbrev pub invariant-loop-k : goal.invariant-loop-k
invariant-loop-k l = Between (start_rows l.start 12) 12 l.initial.response l.response (12 + 16 * l.k)
