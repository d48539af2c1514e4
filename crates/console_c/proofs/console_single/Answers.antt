-- `console_c::console_single` meets its contract.
use Rattle.console_c.proofs.Clamped.{single_c}
use Rattle.console_c.proofs.console_single.Goals as goal

pub returns : goal.returns
returns c = search single_c
