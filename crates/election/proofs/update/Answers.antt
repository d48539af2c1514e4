-- `election::update` meets its contract.
use Rattle.election.proofs.Steps.{greater}
use Rattle.election.proofs.update.Goals as goal

pub returns : goal.returns
returns c = search greater
