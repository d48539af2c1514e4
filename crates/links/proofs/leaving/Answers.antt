-- `links::leaving` meets its contract.
use Rattle.tables.proofs.ArrivalLaws.{arrival_there}
use Rattle.tables.proofs.OutcomeLaws.{refuses, gives}
use Rattle.links.proofs.leaving.Goals as goal

pub returns-in_err-check_arrival : goal.returns-in_err-check_arrival
returns-in_err-check_arrival c = refuses _ _ _ _ _ _ _ c.from_residual.ensures.1 c.in_err-check_arrival.ensures

pub leave-requires : goal.leave-requires
leave-requires c = search (arrival_there, c.in_ok-check_arrival.ensures)

pub returns : goal.returns
returns c = search (gives, c.in_ok-check_arrival.ensures)
