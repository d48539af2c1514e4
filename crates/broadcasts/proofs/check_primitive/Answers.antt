-- `broadcasts::check_primitive` meets its contract.
use Rattle.tables.proofs.RefusalLaws.{rows}
use Rattle.tables.proofs.ArrivalLaws.{arrival_refused, arrival_back}
use Rattle.broadcasts.proofs.check_primitive.Goals as goal

pub returns-in_err-check_arrival : goal.returns-in_err-check_arrival
returns-in_err-check_arrival c = arrival_refused _ _ _ _ _ _ c.permissions_sized-sizes.ensures _ _ _ c.from_residual.ensures.1 c.in_err-check_arrival.ensures

pub returns-then-number-gt7 : goal.returns-then-number-gt7
returns-then-number-gt7 c = search (arrival_back, c.in_ok-check_arrival.ensures, rows) depth 16

pub returns : goal.returns
returns c = search (arrival_back, c.in_ok-check_arrival.ensures, rows) depth 16
