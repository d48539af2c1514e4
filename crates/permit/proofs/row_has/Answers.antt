-- `permit::row_has` meets its contract: the byte is the group's, and the shift picks its bit.
use Rattle.wire.specs.Bits.{bit}
use Rattle.permit.specs.Permission.{P}
use Rattle.permit.proofs.row_has.Goals as goal

pub returns : goal.returns
unfolding P bit
returns c = cc
