-- `lines::put_decimal` meets its contract.
use Rattle.lines.proofs.Lines.{decimal_done}
use native.Mathlib.Omega.{arith}
use Rattle.lines.proofs.put_decimal.Goals as goal

pub returns : goal.returns
returns c = decimal_done _ _ _ _ _ _ _ (omega arith) c.decimal_digits-start.ensures c.put_bytes.ensures
