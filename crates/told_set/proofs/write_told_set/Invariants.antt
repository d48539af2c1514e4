-- `told_set::write_told_set` meets its contract.
use Rattle.told_set.proofs.Chains.{Telling}
use Rattle.told_set.proofs.write_told_set.Given as goal

abbrev pub invariant-loop-k : goal.invariant-loop-k
invariant-loop-k l = Telling l.width l.phys l.permissions l.phy.0 l.source.0 l.initial.set l.set l.slots l.next l.k
