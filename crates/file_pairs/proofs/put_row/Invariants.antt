-- `file_pairs::put_row` meets its contract.
use Rattle.permit.specs.Permission.{groups}
use Rattle.file_pairs.specs.Pairs.{pair_record}
use Rattle.lines.proofs.Putting.{Putting}
use Rattle.file_pairs.proofs.put_row.Given as goal

abbrev pub invariant-loop-b : goal.invariant-loop-b
invariant-loop-b l = Putting (pair_record l.width l.permissions l.a.0) l.a.0 (groups l.width) l.initial.file l.at l.file l.end l.b
