-- `batches::put_bits` meets its contract: the rows below first + k have their bit.
use Prim.Native.Nat.{◌+◌}
use Rattle.batches.specs.Rows.{ColumnTo, byte_has}
use Rattle.batches.proofs.put_bits.Given as goal

abbrev pub invariant-loop-k : goal.invariant-loop-k
invariant-loop-k l = ColumnTo l.width (byte_has l.bits) l.group (l.first + l.low) l.initial.permissions l.permissions (l.first + l.k)
