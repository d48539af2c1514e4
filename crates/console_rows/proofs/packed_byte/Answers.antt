-- `console_rows::packed_byte` meets its contract.
use Rattle.wire.specs.PhySet.{set_byte}
use Rattle.wire.proofs.Sets.{down_start, down_doubles, down_fits, down_again, down_end}
use Rattle.console_rows.specs.Batches.{packed}
use Rattle.console_rows.proofs.packed_byte.Goals as goal

pub loop-j-init : goal.loop-j-init
loop-j-init c = search down_start

pub overflow_mul-byte : goal.overflow_mul-byte
overflow_mul-byte c = search down_doubles

pub overflow_add-byte : goal.overflow_add-byte
overflow_add-byte c = search down_fits

pub loop-j-preserved : goal.loop-j-preserved
loop-j-preserved c = search down_again

pub returns : goal.returns
unfolding packed set_byte
returns c = search down_end
