-- `lines::put_byte` meets its contract.
use Rattle.lines.proofs.Lines.{byte_done}
use Rattle.lines.proofs.put_byte.Goals as goal

pub returns : goal.returns
returns c = search byte_done
