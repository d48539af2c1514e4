-- `file_pairs::switch_on` meets its contract.
use Rattle.std.proofs.Common.{◌≡◌}
use Rattle.file_pairs.proofs.Records.{Switched}
use Rattle.file_pairs.proofs.switch_on.Given as goal

abbrev pub invariant-loop-record : goal.invariant-loop-record
invariant-loop-record l =
    (goal.iterator-loop-record).can_next l.record-iterator × (goal.iterator-loop-record).is_finite l.record-iterator × (l.record-iterator.size ≡ 2)
    × Switched l.width l.initial.permissions l.records l.permissions l.record-iterator.rest.now
