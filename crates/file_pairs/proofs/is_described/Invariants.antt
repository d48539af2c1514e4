-- `file_pairs::is_described` meets its contract.
use Rattle.wire.proofs.RunLaws.{Judged}
use Rattle.permit.specs.Permission.{groups}
use Rattle.file_pairs.specs.Described.{fair_row, described}
use Rattle.file_pairs.proofs.is_described.Given as goal

abbrev pub invariant-loop-a : goal.invariant-loop-a
invariant-loop-a l = Judged (described l.width l.permissions) (fair_row l.width l.permissions) (groups l.width) l.a
