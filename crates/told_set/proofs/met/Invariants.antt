-- `told_set::met` meets its contract.
use Rattle.told_set.proofs.Chains.{Along}
use Rattle.told_set.proofs.met.Given as goal

abbrev pub invariant-loop-k : goal.invariant-loop-k
invariant-loop-k l = Along l.phys l.next l.address l.from l.k

abbrev pub decreases-loop-k : goal.decreases-loop-k
decreases-loop-k l = l.k
