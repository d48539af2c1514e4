-- `told_set::told_byte` meets its contract.
use Rattle.told_set.proofs.Chains.{rise_start, rise_room, rise_on, rise_off, rise_fits, rise_end}
use Rattle.told_set.proofs.told_byte.Goals as goal
use Rattle.told_set.proofs.told_byte.Goals.{then-told, else-told}

pub loop-i-init : goal.loop-i-init
loop-i-init c = search rise_start

pub overflow_add-byte : goal.overflow_add-byte
overflow_add-byte c = search rise_room

pub loop-i-preserved : goal.loop-i-preserved
loop-i-preserved c =
    elim c.if-told.branch [ then-told w ↦ search rise_on | else-told w ↦ search rise_off ]

pub overflow_cast-result : goal.overflow_cast-result
overflow_cast-result c = search rise_fits

pub returns : goal.returns
returns c = search rise_end
