-- `election::elect_phys` meets its contract.
use Rattle.election.specs.Election.{phy_candidates}
use Rattle.election.proofs.Steps.{Carried}
use Rattle.election.proofs.elect_phys.Given as goal

abbrev pub invariant-loop-i : goal.invariant-loop-i
invariant-loop-i l = Carried (phy_candidates l.phys) l.count l.initial.so_far l.so_far l.i
