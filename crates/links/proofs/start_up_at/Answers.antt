-- `links::start_up_at` meets its contract.
use Rattle.tables.proofs.OutcomeLaws.{refuses, gives}
use Rattle.links.proofs.LinkLaws.{sized}
use Rattle.links.proofs.start_up_at.Goals as goal

pub returns-in_err-check_start_up : goal.returns-in_err-check_start_up
returns-in_err-check_start_up c = refuses _ _ _ _ _ _ _ c.from_residual.ensures.1 c.in_err-check_start_up.ensures

pub start_table-requires : goal.start_table-requires
start_table-requires c = search (sized, c.in_ok-check_start_up.ensures)

pub returns : goal.returns
returns c = search (gives, c.in_ok-check_start_up.ensures)
