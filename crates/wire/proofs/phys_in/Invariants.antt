-- `wire::phys_in` meets its contract: what is counted and what is left to count are all.
use Rattle.wire.proofs.Sets.{Counted}
use Rattle.wire.proofs.phys_in.Given as goal

abbrev pub invariant-loop-byte : goal.invariant-loop-byte
invariant-loop-byte l = Counted l.set l.count l.byte-index
