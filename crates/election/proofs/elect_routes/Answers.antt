-- `election::elect_routes` meets its contract.
use Rattle.election.proofs.Steps.{routes_again, routes_end}
use Rattle.election.proofs.elect_routes.Goals as goal

pub loop-i-preserved : goal.loop-i-preserved
loop-i-preserved c = search routes_again

pub returns : goal.returns
returns c = search routes_end
