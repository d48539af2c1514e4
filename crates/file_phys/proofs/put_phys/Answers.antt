-- `file_phys::put_phys` meets its contract.
use native.Mathlib.Omega.{arith}
use Rattle.lines.proofs.Putting.{putting_start, putting_length, putting_again}
use Rattle.file_phys.proofs.BlockLaws.{block_room, block_end}
use Rattle.file_phys.proofs.put_phys.Goals as goal

pub loop-phy-init : goal.loop-phy-init
loop-phy-init c = putting_start _ _ _ _ _ (omega arith)

pub put_phy-end-requires : goal.put_phy-end-requires
put_phy-end-requires c = (omega arith, search block_room)

pub loop-phy-preserved : goal.loop-phy-preserved
loop-phy-preserved c = search putting_again

pub shape_of-file : goal.shape_of-file
shape_of-file c = search putting_length

pub returns : goal.returns
returns c = search block_end
