-- `boundary::identify_c` meets its contract.
use Rattle.boundary.proofs.Crossing.{named_in_fields}
use Rattle.boundary.proofs.CLaws.{identify_short, identify_wide, identify_whole}
use Rattle.boundary.proofs.identify_c.Goals as goal

pub returns-then-address-ne8 : goal.returns-then-address-ne8
returns-then-address-ne8 c = search identify_short

pub returns-then-not-bytes_fit : goal.returns-then-not-bytes_fit
returns-then-not-bytes_fit c = search identify_wide

pub returns : goal.returns
returns c = search (identify_whole, named_in_fields)
