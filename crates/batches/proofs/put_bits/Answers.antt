-- `batches::put_bits` meets its contract: the rows below first + k have their bit.
use Rattle.batches.proofs.RowLaws.{bits_again}
use Rattle.batches.proofs.put_bits.Goals as goal

pub loop-k-preserved : goal.loop-k-preserved
loop-k-preserved c = search bits_again
