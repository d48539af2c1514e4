-- `zonefile_text::put_usage` meets its contract.
use native.Mathlib.Omega.{arith}
use Rattle.zonefile_text.specs.ZonefileText.{usage_text}
use Rattle.zonefile_text.proofs.put_usage.Goals as goal

pub returns : goal.returns
unfolding usage_text
returns c = (c.put_bytes.ensures, omega (arith, c.put_bytes.ensures.ends))
