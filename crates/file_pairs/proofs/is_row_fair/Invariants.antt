-- `file_pairs::is_row_fair` meets its contract.
use Rattle.wire.proofs.RunLaws.{Judged}
use Rattle.permit.specs.Permission.{groups}
use Rattle.file_pairs.specs.Described.{fair, fair_row}
use Rattle.file_pairs.proofs.is_row_fair.Given as goal

abbrev pub invariant-loop-b : goal.invariant-loop-b
invariant-loop-b l = Judged (fair_row l.width l.permissions l.a.0) (fair l.width l.permissions l.a.0) (groups l.width) l.b
