-- `file_pairs::is_ascending` meets its contract.
use Rattle.std.proofs.Common.{◌≡◌}
use Rattle.file_pairs.proofs.Records.{Judged}
use Rattle.file_pairs.proofs.is_ascending.Given as goal

abbrev pub invariant-loop-record : goal.invariant-loop-record
invariant-loop-record l =
    (goal.iterator-loop-record).can_next l.record-iterator × (goal.iterator-loop-record).is_finite l.record-iterator × (l.record-iterator.size ≡ 2)
    × Judged l.width l.records l.good l.low l.record-iterator.rest.now
