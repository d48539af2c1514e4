-- `opens::admit` meets its contract.
use mathlib.Core.Path.{refl}
use Rattle.opens.specs.Open.{sent}
use Rattle.opens.proofs.OpenSteps.{admit_bad, admit_violation, admit_forward, sent_forward}
use Rattle.opens.proofs.admit.Goals as goal

pub returns-then-same_port : goal.returns-then-same_port
unfolding sent
returns-then-same_port c = (search admit_bad, refl)

pub returns-then-not-permitted : goal.returns-then-not-permitted
unfolding sent
returns-then-not-permitted c = (search admit_violation, refl)

pub returns : goal.returns
returns c = (search admit_forward, search sent_forward)
