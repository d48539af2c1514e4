-- `events::cut_line` meets its contract.
use Rattle.lines.proofs.Lines.{cut_done}
use Rattle.events.proofs.cut_line.Goals as goal

pub returns : goal.returns
returns c = cut_done _ _ _ _ _ _ c.put_decimal-a.ensures c.put_bytes.ensures
