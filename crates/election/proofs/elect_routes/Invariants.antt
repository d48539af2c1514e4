-- `election::elect_routes` meets its contract.
use Rattle.election.specs.Election.{route_candidates}
use Rattle.election.proofs.Steps.{Carried}
use Rattle.election.proofs.elect_routes.Given as goal

abbrev pub invariant-loop-i : goal.invariant-loop-i
invariant-loop-i l = Carried (route_candidates l.routes) l.count l.initial.so_far l.so_far l.i
