-- `broadcasts::check_frame` meets its contract.
use Rattle.tables.proofs.RefusalLaws.{rows, held_same, held_differ}
use Rattle.tables.proofs.ArrivalLaws.{arrival_refused, arrival_back}
use Rattle.broadcasts.proofs.check_frame.Goals as goal

pub returns-in_err-check_arrival : goal.returns-in_err-check_arrival
returns-in_err-check_arrival c = arrival_refused _ _ _ _ _ _ c.permissions_sized-sizes.ensures _ _ _ c.from_residual.ensures.1 c.in_err-check_arrival.ensures

pub returns-then-arrived-eq0 : goal.returns-then-arrived-eq0
returns-then-arrived-eq0 c = search (arrival_back, c.in_ok-check_arrival.ensures, rows, held_same) depth 16

pub returns-then-arrived-typed_length : goal.returns-then-arrived-typed_length
returns-then-arrived-typed_length c = search (arrival_back, c.in_ok-check_arrival.ensures, rows, held_same, held_differ) depth 16

pub returns-then-arrived-lt2 : goal.returns-then-arrived-lt2
returns-then-arrived-lt2 c = search (arrival_back, c.in_ok-check_arrival.ensures, rows, held_same) depth 16

pub returns-then-arrived-gt3 : goal.returns-then-arrived-gt3
returns-then-arrived-gt3 c = search (arrival_back, c.in_ok-check_arrival.ensures, rows, held_same) depth 16

pub returns : goal.returns
returns c = search (arrival_back, c.in_ok-check_arrival.ensures, rows, held_same) depth 16
