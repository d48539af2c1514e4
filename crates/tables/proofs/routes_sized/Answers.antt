-- `tables::routes_sized` meets its contract.
use mathlib.Core.Path.{refl}
use Rattle.tables.specs.Routes.{routes_sized}
use Rattle.tables.proofs.routes_sized.Goals as goal

pub returns : goal.returns
unfolding routes_sized
returns c = refl
