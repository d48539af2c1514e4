-- `broadcasts::typed_length` meets its contract.
use Rattle.std.proofs.lemmas.Bool.Decides.{nat_tests}
use native.Mathlib.Omega.{arith}
use Rattle.broadcasts.specs.Broadcasts.{typed_length}
use Rattle.broadcasts.proofs.typed_length.Goals as goal

pub returns-in-2 : goal.returns-in-2
unfolding typed_length
returns-in-2 c = rw c.in-2.is

pub returns-in-3 : goal.returns-in-3
unfolding typed_length
returns-in-3 c = rw c.in-3.is

pub returns-in_default : goal.returns-in_default
unfolding typed_length
returns-in_default c = grind (arith, nat_tests, c.in_default)
