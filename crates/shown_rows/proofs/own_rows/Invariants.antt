-- `shown_rows::own_rows` meets its contract: the first k rows are shown.
use Prim.Native.Nat.{◌+◌, ◌*◌}
use Rattle.permit.specs.Start.{Between}
use Rattle.shown_rows.specs.Inner.{shown}
use Rattle.shown_rows.proofs.own_rows.Given as goal

abbrev pub invariant-loop-k : goal.invariant-loop-k
invariant-loop-k l = Between (shown l.width l.permissions l.start) 12 l.initial.response l.response (12 + 16 * l.k)
