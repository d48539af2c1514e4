-- `lines::put_bytes` meets its contract.
use Rattle.lines.proofs.Lines.{copy_done}
use Rattle.lines.proofs.put_bytes.Goals as goal

pub returns : goal.returns
returns c = search copy_done
