-- `lines::put_forward` meets its contract.
use Rattle.lines.proofs.Lines.{forward_done}
use Rattle.lines.proofs.put_forward.Goals as goal

pub returns : goal.returns
returns c = forward_done _ _ _ _ _ _ _ c.put_bytes-a.ensures c.put_decimal.ensures
