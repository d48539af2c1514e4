-- `boundary::primitive_c` meets its contract.
use Rattle.boundary.proofs.Crossing.{named_in_fields}
use Rattle.boundary.proofs.CLaws.{primitive_c}
use Rattle.boundary.proofs.primitive_c.Goals as goal

pub returns : goal.returns
returns c = search (primitive_c, named_in_fields)
