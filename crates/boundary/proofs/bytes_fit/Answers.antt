-- `boundary::bytes_fit` meets its contract.
use mathlib.Core.Path.{refl}
use Rattle.boundary.specs.C.{bytes_fit}
use Rattle.boundary.proofs.bytes_fit.Goals as goal

pub returns : goal.returns
unfolding bytes_fit
returns c = refl
