-- `warden_words::decimal_value` meets its contract.
use native.Mathlib.Omega.{arith}
use Rattle.warden_words.proofs.NumberLaws.{held_again, held_end}
use Rattle.warden_words.proofs.decimal_value.Goals as goal

pub loop-digit-preserved : goal.loop-digit-preserved
loop-digit-preserved c = (search held_again, omega arith)

pub returns : goal.returns
returns c = held_end _ _ _ (omega (arith, c.loop-digit-test.false)) c.loop-digit.invariant.1 c.loop-digit.invariant.0
