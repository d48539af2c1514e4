-- `tables::write_empty_set` meets its contract.
use Rattle.tables.proofs.PhyLaws.{empty_cleared}
use Rattle.tables.proofs.write_empty_set.Goals as goal

pub returns : goal.returns
returns c = search empty_cleared
