-- `boundary::broadcast_frame_c` meets its contract.
use Rattle.boundary.proofs.Crossing.{named_in_fields}
use Rattle.boundary.proofs.CLaws.{broadcast_c}
use Rattle.boundary.proofs.broadcast_frame_c.Goals as goal

pub returns : goal.returns
returns c = search (broadcast_c, named_in_fields)
