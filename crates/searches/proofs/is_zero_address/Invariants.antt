-- `searches::is_zero_address` meets its contract.
use Rattle.searches.proofs.SearchLaws.{Zeros}
use Rattle.searches.proofs.is_zero_address.Given as goal

abbrev pub invariant-loop-k : goal.invariant-loop-k
invariant-loop-k l = Zeros l.frame 4 l.k
