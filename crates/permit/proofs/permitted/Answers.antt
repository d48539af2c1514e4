-- `permit::permitted` meets its contract.
use Rattle.permit.proofs.ReachLaws.{reach_in, reach_row, reach_group}
use Rattle.permit.proofs.permitted.Goals as goal

pub returns-then-width-row : goal.returns-then-width-row
returns-then-width-row c = search reach_row

pub returns-then-width-group : goal.returns-then-width-group
returns-then-width-group c = search reach_group

pub returns : goal.returns
returns c = search reach_in
