-- `console_reading::is_among` meets its contract.
use mathlib.Core.Path.{◌∙◌}
use Rattle.console_reading.proofs.ReadLaws.{contains_among}
use Rattle.console_reading.proofs.is_among.Goals as goal

pub returns : goal.returns
returns c = c.contains.ensures.value ∙ contains_among _ _
