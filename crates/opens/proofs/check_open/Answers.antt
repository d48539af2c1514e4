-- `opens::check_open` meets its contract.
use Rattle.tables.proofs.RefusalLaws.{rows}
use Rattle.tables.proofs.ArrivalLaws.{both_sized, arrival_refused, arrival_back}
use Rattle.opens.proofs.check_open.Goals as goal

pub returns-in_err-check_arrival : goal.returns-in_err-check_arrival
returns-in_err-check_arrival c =
    arrival_refused _ _ _ _ _ _ (search both_sized) _ _ _ c.from_residual.ensures.1 c.in_err-check_arrival.ensures

pub returns-then-frame-ne28 : goal.returns-then-frame-ne28
returns-then-frame-ne28 c = search (arrival_back, c.in_ok-check_arrival.ensures, both_sized, rows) depth 16

pub returns-then-frame-ne1 : goal.returns-then-frame-ne1
returns-then-frame-ne1 c = search (arrival_back, c.in_ok-check_arrival.ensures, both_sized, rows) depth 16

pub returns : goal.returns
returns c = search (arrival_back, c.in_ok-check_arrival.ensures, both_sized, rows) depth 16
