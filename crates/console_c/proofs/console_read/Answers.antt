-- `console_c::console_read` meets its contract.
use Rattle.boundary.proofs.Crossing.{crosses}
use Rattle.console_c.proofs.console_read.Goals as goal

pub returns : goal.returns
returns c = search crosses
