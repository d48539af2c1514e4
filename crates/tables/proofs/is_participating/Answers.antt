-- `tables::is_participating` meets its contract.
use Rattle.tables.proofs.PhyLaws.{byte0}
use Rattle.tables.proofs.is_participating.Goals as goal

pub returns : goal.returns
returns c = rw byte0
