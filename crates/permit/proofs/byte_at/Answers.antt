-- `permit::byte_at` meets its contract.
use native.Mathlib.Omega.{arith}
use Rattle.permit.specs.Permission.{place}
use Rattle.permit.proofs.byte_at.Goals as goal

pub returns : goal.returns
unfolding place
returns c = (omega arith, omega arith)
