-- `wire::copy` meets its contract: the first k bytes are copied.
use Rattle.wire.proofs.Copies.{copy_start, copy_again, copy_end}
use Rattle.wire.proofs.copy.Goals as goal

pub loop-k-init : goal.loop-k-init
loop-k-init c = search copy_start

pub loop-k-preserved : goal.loop-k-preserved
loop-k-preserved c = search copy_again

pub returns : goal.returns
returns c = search copy_end
