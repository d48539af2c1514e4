-- `console_c::console_batch` meets its contract.
use Rattle.console_c.proofs.Clamped.{batch_c}
use Rattle.console_c.proofs.console_batch.Goals as goal

pub returns : goal.returns
returns c = search batch_c
