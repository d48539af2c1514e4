-- `warden_text::put_digits` meets its contract.
use Rattle.lines.proofs.Lines.{short_done}
use native.Mathlib.Omega.{arith}
use Prim.Native.Nat.{◌<◌}
use Rattle.warden_text.proofs.put_digits.Goals as goal

pub returns : goal.returns
returns c = let h : c.args.n < 65536 = omega arith in short_done _ _ _ _ _ h c.put_decimal.ensures
