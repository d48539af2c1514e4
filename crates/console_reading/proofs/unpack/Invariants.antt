-- `console_reading::unpack` meets its contract.
use Prim.Native.Nat.{◌*◌}
use Rattle.console_reading.proofs.ReadLaws.{Eights}
use Rattle.console_reading.proofs.unpack.Given as goal

abbrev pub invariant-loop-k : goal.invariant-loop-k
invariant-loop-k l = Eights l.response l.initial.rows (128 * l.count) l.rows (8 * l.k)
