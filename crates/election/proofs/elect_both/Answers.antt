-- `election::elect_both` meets its contract.
use Rattle.election.proofs.Steps.{carried}
use Rattle.election.proofs.elect_both.Goals as goal

pub returns : goal.returns
returns c = search carried
