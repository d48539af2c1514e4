-- `told_set::slot_of` meets its contract.
use mathlib.Core.Path.{refl}
use native.Mathlib.Omega.{arith}
use Rattle.told_set.specs.Inner.{slot_of}
use Rattle.told_set.proofs.slot_of.Goals as goal

pub returns : goal.returns
unfolding slot_of
returns c = (refl, omega arith)
