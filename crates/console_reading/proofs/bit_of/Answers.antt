-- `console_reading::bit_of` meets its contract.
use Rattle.console_reading.proofs.ReadLaws.{bit_masked}
use Rattle.console_reading.proofs.bit_of.Goals as goal

pub returns : goal.returns
returns c = search bit_masked
