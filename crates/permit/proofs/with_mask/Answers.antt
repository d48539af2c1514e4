-- `permit::with_mask` meets its contract.
use native.Mathlib.Omega.{arith}
use Rattle.permit.proofs.BitOps.{with_on, with_off}
use Rattle.permit.proofs.with_mask.Goals as goal

pub returns-then-on : goal.returns-then-on
returns-then-on c = with_on _ _ _ c.if-on.true

pub returns-else-on : goal.returns-else-on
returns-else-on c = with_off _ _ _ (omega arith) c.if-on.false
