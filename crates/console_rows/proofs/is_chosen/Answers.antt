-- `console_rows::is_chosen` meets its contract.
use mathlib.Core.Path.{refl}
use Rattle.console_rows.specs.Batches.{chosen}
use Rattle.console_rows.proofs.is_chosen.Goals as goal

pub returns : goal.returns
unfolding chosen
returns c = refl
