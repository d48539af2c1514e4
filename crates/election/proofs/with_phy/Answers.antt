-- `election::with_phy` meets its contract.
use Rattle.election.proofs.Steps.{lower, zero_priority, not_ready_lem}
use Rattle.election.proofs.with_phy.Goals as goal

pub returns-then-not-is_ready : goal.returns-then-not-is_ready
returns-then-not-is_ready c = search not_ready_lem

pub returns-then-priority-b : goal.returns-then-priority-b
returns-then-priority-b c = search lower

pub returns-then-priority-eq0 : goal.returns-then-priority-eq0
returns-then-priority-eq0 c = search zero_priority
