-- `links::check_start_up` meets its contract.
use Rattle.tables.proofs.RefusalLaws.{rows}
use Rattle.links.proofs.check_start_up.Goals as goal

pub returns-then-not-permissions_sized : goal.returns-then-not-permissions_sized
returns-then-not-permissions_sized c = search rows depth 16

pub returns : goal.returns
returns c = search rows depth 16
