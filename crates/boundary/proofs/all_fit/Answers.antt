-- `boundary::all_fit` meets its contract.
use mathlib.Core.Path.{refl}
use Rattle.boundary.specs.C.{all_fit}
use Rattle.boundary.proofs.all_fit.Goals as goal

pub returns : goal.returns
unfolding all_fit
returns c = refl
