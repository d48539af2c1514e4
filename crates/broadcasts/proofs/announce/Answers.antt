-- `broadcasts::announce` meets its contract.
use Rattle.broadcasts.proofs.BroadcastLaws.{announce_done}
use Rattle.broadcasts.proofs.announce.Goals as goal

pub returns : goal.returns
returns c = search announce_done
