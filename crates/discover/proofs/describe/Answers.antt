-- `discover::describe` meets its contract.
use Rattle.discover.proofs.DiscoverLaws.{describes}
use Rattle.discover.proofs.describe.Goals as goal

pub returns : goal.returns
returns c = search describes
