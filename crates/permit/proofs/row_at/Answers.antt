-- `permit::row_at` meets its contract.
use native.Mathlib.Omega.{arith}
use mathlib.Core.Path.{refl}
use Rattle.permit.proofs.Laws.{row_ends, row_small}
use Rattle.permit.proofs.row_at.Goals as goal

pub overflow_mul-result : goal.overflow_mul-result
overflow_mul-result c = omega (arith, row_small c.args.width c.args.row (omega arith) (omega arith))

pub returns : goal.returns
returns c = (refl, row_ends _ _ (omega arith) (omega arith), row_small _ _ (omega arith) (omega arith))
