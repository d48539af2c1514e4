-- `console_reading::unpack_eight` meets its contract.
use Rattle.console_reading.proofs.ReadLaws.{eight_stored}
use Rattle.console_reading.proofs.unpack_eight.Goals as goal

pub returns : goal.returns
returns c = search eight_stored
