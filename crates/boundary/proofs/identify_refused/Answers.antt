-- `boundary::identify_refused` meets its contract.
use Rattle.boundary.proofs.Crossing.{named_in_fields}
use Rattle.boundary.proofs.CLaws.{refused_own}
use Rattle.boundary.proofs.identify_refused.Goals as goal

pub returns : goal.returns
returns c = search (refused_own, named_in_fields)
