-- `permit::mask` meets its contract: a one, shifted to the group's bit.
use Rattle.permit.proofs.BitOps.{one_shifted}
use Rattle.permit.proofs.mask.Goals as goal

pub returns : goal.returns
returns c = search one_shifted
