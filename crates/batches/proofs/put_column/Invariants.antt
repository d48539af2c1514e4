-- `batches::put_column` meets its contract: the rows of the bytes before q have their bit.
use Prim.Native.Nat.{◌*◌}
use Rattle.permit.specs.Permission.{P}
use Rattle.batches.specs.Rows.{ColumnTo}
use Rattle.batches.proofs.put_column.Given as goal

abbrev pub invariant-loop-q : goal.invariant-loop-q
invariant-loop-q l = ColumnTo l.width (P 16 l.rows l.i) l.group 8 l.initial.permissions l.permissions (l.q * 8)
