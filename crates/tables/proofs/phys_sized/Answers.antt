-- `tables::phys_sized` meets its contract.
use mathlib.Core.Path.{refl}
use Rattle.tables.specs.Phys.{phys_sized}
use Rattle.tables.proofs.phys_sized.Goals as goal

pub returns : goal.returns
unfolding phys_sized
returns c = refl
