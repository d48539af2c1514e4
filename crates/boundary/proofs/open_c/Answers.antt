-- `boundary::open_c` meets its contract.
use Rattle.boundary.proofs.Crossing.{named_in_fields}
use Rattle.boundary.proofs.CLaws.{open_c}
use Rattle.boundary.proofs.open_c.Goals as goal

pub returns : goal.returns
returns c = search (open_c, named_in_fields)
