-- `file_phys::is_numbered` meets its contract.
use Rattle.std.proofs.Common.{◌≡◌}
use Rattle.file_phys.proofs.BlockLaws.{Counted}
use Rattle.file_phys.proofs.is_numbered.Given as goal

abbrev pub invariant-loop-entry : goal.invariant-loop-entry
invariant-loop-entry l =
    (goal.iterator-loop-entry).can_next l.entry-iterator × (goal.iterator-loop-entry).is_finite l.entry-iterator × (l.entry-iterator.size ≡ 3)
    × Counted l.count l.block l.low l.entry-iterator.rest.now
