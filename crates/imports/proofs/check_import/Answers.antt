-- `imports::check_import` meets its contract.
use borrow.Author.Rules.{rules}
use Rattle.wire.proofs.GroupLaws.{taken_group, taken_none}
use Rattle.tables.proofs.RefusalLaws.{rows}
use Rattle.tables.proofs.ArrivalLaws.{arrival_there, arrival_refused, arrival_back}
use Rattle.imports.proofs.check_import.Goals as goal

pub returns-in_err-check_arrival : goal.returns-in_err-check_arrival
returns-in_err-check_arrival c = arrival_refused _ _ _ _ _ _ (search rules) _ _ _ c.from_residual.ensures.1 c.in_err-check_arrival.ensures

pub smp_source-requires : goal.smp_source-requires
smp_source-requires c = search (arrival_there, c.in_ok-check_arrival.ensures)

pub returns-in_default : goal.returns-in_default
returns-in_default c = search (arrival_back, c.in_ok-check_arrival.ensures, rows, taken_none) depth 16

pub returns : goal.returns
returns c = search (arrival_back, c.in_ok-check_arrival.ensures, rows, taken_group) depth 16
