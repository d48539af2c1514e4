-- `boundary::leaving_c` meets its contract.
use Rattle.boundary.proofs.Crossing.{named_in_fields}
use Rattle.boundary.proofs.CLaws.{leaving_c}
use Rattle.boundary.proofs.leaving_c.Goals as goal

pub returns : goal.returns
returns c = search (leaving_c, named_in_fields)
