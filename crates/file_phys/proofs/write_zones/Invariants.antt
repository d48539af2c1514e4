-- `file_phys::write_zones` meets its contract.
use Rattle.std.proofs.Common.{◌≡◌}
use Rattle.file_phys.proofs.BlockLaws.{Rezoned}
use Rattle.file_phys.proofs.write_zones.Given as goal

abbrev pub invariant-loop-entry : goal.invariant-loop-entry
invariant-loop-entry l =
    (goal.iterator-loop-entry).can_next l.entry-iterator × (goal.iterator-loop-entry).is_finite l.entry-iterator × (l.entry-iterator.size ≡ 3)
    × Rezoned l.initial.phys l.block l.phys l.entry-iterator.rest.now
