-- `boundary::start_up_c` meets its contract.
use Rattle.boundary.proofs.Crossing.{crosses, named_in_fields}
use Rattle.boundary.proofs.start_up_c.Goals as goal

pub returns : goal.returns
returns c = search (crosses, named_in_fields)
