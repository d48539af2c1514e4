-- `tables::check_arrival` meets its contract.
use Rattle.tables.specs.Arrival.{arrival_checks}
use Rattle.tables.proofs.RefusalLaws.{rows}
use Rattle.tables.proofs.ArrivalLaws.{unlike-holds, unlike_fails}
use Rattle.tables.proofs.check_arrival.Goals as goal

pub returns-then-not-phys_sized : goal.returns-then-not-phys_sized
unfolding arrival_checks
returns-then-not-phys_sized c = search rows depth 16

pub returns-then-not-sizes : goal.returns-then-not-sizes
unfolding arrival_checks
returns-then-not-sizes c = search rows depth 16

pub returns-then-phys-phy : goal.returns-then-phys-phy
unfolding arrival_checks
returns-then-phys-phy c = search rows depth 16

pub returns-then-not-room : goal.returns-then-not-room
unfolding arrival_checks
returns-then-not-room c = search rows depth 16

pub returns-then-is_ready-awaited : goal.returns-then-is_ready-awaited
unfolding arrival_checks
returns-then-is_ready-awaited c = search (rows, unlike-holds) depth 16

pub returns : goal.returns
unfolding arrival_checks
returns c = search (rows, unlike_fails) depth 16
