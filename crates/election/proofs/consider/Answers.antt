-- `election::consider` meets its contract.
use Rattle.election.proofs.Steps.{no_address, stands}
use Rattle.election.proofs.consider.Goals as goal

pub returns-then-address-eq0 : goal.returns-then-address-eq0
returns-then-address-eq0 c = search no_address

pub returns : goal.returns
returns c = search stands
