-- `told_set::told_byte` meets its contract.
use Rattle.told_set.proofs.Chains.{Rising}
use Rattle.told_set.proofs.told_byte.Given as goal

abbrev pub invariant-loop-i : goal.invariant-loop-i
invariant-loop-i l = Rising l.width l.phys l.permissions l.phy.0 l.source.0 l.k l.slots l.next l.byte l.bit l.i
