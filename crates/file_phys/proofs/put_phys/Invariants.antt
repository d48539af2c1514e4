-- `file_phys::put_phys` meets its contract.
use Rattle.tables.specs.Phys.{phy_count}
use Rattle.lines.proofs.Putting.{Putting}
use Rattle.file_phys.specs.Block.{phy_entry}
use Rattle.file_phys.proofs.put_phys.Given as goal

abbrev pub invariant-loop-phy : goal.invariant-loop-phy
invariant-loop-phy l = Putting (phy_entry l.phys) 0 (phy_count l.phys) l.initial.file l.at l.file l.end l.phy
