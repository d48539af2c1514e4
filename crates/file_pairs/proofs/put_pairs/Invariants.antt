-- `file_pairs::put_pairs` meets its contract.
use Rattle.permit.specs.Permission.{groups}
use Rattle.file_pairs.specs.Pairs.{row_records}
use Rattle.lines.proofs.Putting.{Putting}
use Rattle.file_pairs.proofs.put_pairs.Given as goal

abbrev pub invariant-loop-a : goal.invariant-loop-a
invariant-loop-a l = Putting (row_records l.width l.permissions) 2 (groups l.width) l.initial.file 0 l.file l.end l.a
