-- `permit::table_size` meets its contract.
use native.Mathlib.Omega.{arith}
use Rattle.permit.proofs.Laws.{size_small}
use Rattle.permit.proofs.table_size.Goals as goal

pub overflow_mul-result-2 : goal.overflow_mul-result-2
overflow_mul-result-2 c = omega (arith, size_small c.args.width (omega arith))
