-- `links::identify` meets its contract.
use Rattle.tables.proofs.ArrivalLaws.{own_there}
use Rattle.tables.proofs.OutcomeLaws.{refuses, gives}
use Rattle.links.proofs.identify.Goals as goal

pub returns-in_err-check_identify : goal.returns-in_err-check_identify
returns-in_err-check_identify c = refuses _ _ _ _ _ _ _ c.from_residual.ensures.1 c.in_err-check_identify.ensures

pub attach-requires : goal.attach-requires
attach-requires c = search (own_there, c.in_ok-check_identify.ensures)

pub returns : goal.returns
returns c = search (gives, c.in_ok-check_identify.ensures)
