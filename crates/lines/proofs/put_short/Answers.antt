-- `lines::put_short` meets its contract.
use Rattle.lines.proofs.Lines.{short_done}
use native.Mathlib.Omega.{arith}
use Rattle.lines.proofs.put_short.Goals as goal

pub returns : goal.returns
returns c = short_done _ _ _ _ _ (omega arith) c.put_decimal.ensures
