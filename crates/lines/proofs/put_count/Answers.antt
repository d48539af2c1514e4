-- `lines::put_count` meets its contract.
use Rattle.lines.proofs.Lines.{count_done}
use Rattle.lines.proofs.put_count.Goals as goal

pub returns : goal.returns
returns c = count_done _ _ _ _ _ _ _ _ _ _ c.put_byte-a.ensures c.put_byte-b.ensures c.put_decimal.ensures
