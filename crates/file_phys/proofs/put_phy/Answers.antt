-- `file_phys::put_phy` meets its contract.
use Rattle.file_phys.proofs.BlockLaws.{entry_put}
use native.Mathlib.Omega.{arith}
use lib.ListN.{length-set}
use Rattle.file_phys.proofs.put_phy.Goals as goal

pub bounds-file-at-2 : goal.bounds-file-at-2
bounds-file-at-2 c = simp length-set (omega arith)

pub bounds-file-at-3 : goal.bounds-file-at-3
bounds-file-at-3 c = simp length-set (omega arith)

pub returns : goal.returns
returns c = search entry_put
