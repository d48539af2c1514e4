-- `links::check_identify` meets its contract.
use mathlib.Core.Path.{refl}
use Rattle.tables.proofs.RefusalLaws.{rows}
use Rattle.tables.proofs.ArrivalLaws.{arrival_refused, arrival_back}
use Rattle.links.proofs.LinkLaws.{same_as, other_than}
use Rattle.links.proofs.check_identify.Goals as goal

pub returns-in_err-check_arrival : goal.returns-in_err-check_arrival
returns-in_err-check_arrival c = arrival_refused _ _ _ _ _ _ refl _ _ _ c.from_residual.ensures.1 c.in_err-check_arrival.ensures

pub returns-then-address_at-eq0 : goal.returns-then-address_at-eq0
returns-then-address_at-eq0 c = search (arrival_back, c.in_ok-check_arrival.ensures, rows, same_as, other_than) depth 16

pub returns : goal.returns
returns c = search (arrival_back, c.in_ok-check_arrival.ensures, rows, same_as, other_than) depth 16
