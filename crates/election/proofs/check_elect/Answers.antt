-- `election::check_elect` meets its contract.
use Rattle.tables.proofs.RefusalLaws.{rows}
use Rattle.election.proofs.check_elect.Goals as goal

pub returns-then-not-phys_sized : goal.returns-then-not-phys_sized
returns-then-not-phys_sized c = search rows depth 16

pub returns-then-not-routes_sized : goal.returns-then-not-routes_sized
returns-then-not-routes_sized c = search rows depth 16

pub returns : goal.returns
returns c = search rows depth 16
