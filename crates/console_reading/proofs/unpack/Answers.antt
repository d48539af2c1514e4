-- `console_reading::unpack` meets its contract.
use native.Mathlib.Omega.{arith}
use Rattle.console_reading.proofs.ReadLaws.{eights_start, eights_again, eights_end}
use Rattle.console_reading.proofs.unpack.Goals as goal

pub loop-k-init : goal.loop-k-init
loop-k-init c = search eights_start

pub loop-k-preserved : goal.loop-k-preserved
loop-k-preserved c = search eights_again

pub returns : goal.returns
returns c = eights_end _ _ _ _ _ (omega arith) c.loop-k.invariant
