-- `discover::length_said` meets its contract.
use mathlib.Core.Path.{refl}
use Rattle.discover.specs.Discover.{length_said}
use Rattle.discover.proofs.length_said.Goals as goal

pub returns : goal.returns
unfolding length_said
returns c = refl
