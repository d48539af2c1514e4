-- `wire::two_at` meets its contract.
use native.Mathlib.Omega.{arith}
use Rattle.wire.proofs.Addresses.{two_made}
use Rattle.wire.proofs.two_at.Goals as goal

pub returns : goal.returns
returns c = (two_made _ _ _ c.from_be_bytes.ensures, omega arith)
