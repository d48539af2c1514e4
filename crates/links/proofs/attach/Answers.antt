-- `links::attach` meets its contract.
use Rattle.links.proofs.LinkLaws.{stored_all}
use Rattle.links.proofs.attach.Goals as goal

pub returns : goal.returns
returns c = search stored_all
