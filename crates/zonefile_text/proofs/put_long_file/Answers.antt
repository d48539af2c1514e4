-- `zonefile_text::put_long_file` meets its contract.
use native.Mathlib.Omega.{arith}
use Rattle.zonefile_text.specs.ZonefileText.{long_file_text}
use Rattle.zonefile_text.proofs.put_long_file.Goals as goal

pub returns : goal.returns
unfolding long_file_text
returns c = (c.put_bytes.ensures, omega (arith, c.put_bytes.ensures.ends))
