-- `discover::is_shown` meets its contract.
use Rattle.discover.proofs.DiscoverLaws.{shown_ignoring, shown_reached}
use Rattle.discover.proofs.is_shown.Goals as goal

pub returns-then-request-eq1 : goal.returns-then-request-eq1
returns-then-request-eq1 c = search shown_ignoring

pub returns : goal.returns
returns c = search shown_reached
