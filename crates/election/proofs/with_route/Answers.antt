-- `election::with_route` meets its contract.
use Rattle.election.proofs.Steps.{lower, zero_priority, no_group}
use Rattle.election.proofs.with_route.Goals as goal

pub returns-then-priority-b : goal.returns-then-priority-b
returns-then-priority-b c = search lower

pub returns-then-priority-eq0 : goal.returns-then-priority-eq0
returns-then-priority-eq0 c = search zero_priority

pub returns-in_default : goal.returns-in_default
returns-in_default c = search no_group
