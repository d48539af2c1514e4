-- `tables::phy_priority` meets its contract.
use Rattle.tables.proofs.PhyLaws.{byte0}
use Rattle.tables.proofs.phy_priority.Goals as goal

pub returns : goal.returns
returns c = rw byte0
