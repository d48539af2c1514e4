-- `file_phys::are_phys_writable` meets its contract.
use Rattle.wire.proofs.RunLaws.{Judged}
use Rattle.tables.specs.Phys.{phy_count}
use Rattle.file_phys.specs.Block.{block_of, entry_writable, all_writable}
use Rattle.file_phys.proofs.are_phys_writable.Given as goal

abbrev pub invariant-loop-i : goal.invariant-loop-i
invariant-loop-i l = Judged (all_writable l.width (block_of l.phys)) (entry_writable l.width (block_of l.phys)) (phy_count l.phys) l.i
