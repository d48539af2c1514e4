-- `permit::repeat_row` meets its contract: the rows below `at` are row 0.
use native.Mathlib.Omega.{arith}
use Rattle.permit.proofs.Laws.{two-rows}
use Rattle.permit.proofs.StartLaws.{between_start, repeat_again, repeat_done}
use Rattle.permit.proofs.repeat_row.Goals as goal

pub loop-at-init : goal.loop-at-init
loop-at-init c = between_start _ _ _ (omega (arith, two-rows c.args.width (omega arith)))

pub loop-at-preserved : goal.loop-at-preserved
loop-at-preserved c = repeat_again _ (omega arith) _ _ _ (omega arith) (omega arith) c.loop-at.invariant

pub returns : goal.returns
returns c = repeat_done _ (omega arith) _ _ _ (omega arith) (omega arith) c.loop-at.invariant
