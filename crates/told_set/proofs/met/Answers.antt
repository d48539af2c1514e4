-- `told_set::met` meets its contract.
use Rattle.told_set.proofs.Chains.{along_again, along_met, along_end}
use Rattle.told_set.proofs.met.Goals as goal

pub returns-then-address_at-address : goal.returns-then-address_at-address
returns-then-address_at-address c = search along_met

pub loop-k-preserved : goal.loop-k-preserved
loop-k-preserved c = search along_again

pub returns : goal.returns
returns c = search along_end
