-- `batches::put_column` meets its contract: the rows of the bytes before q have their bit.
use Rattle.batches.proofs.RowLaws.{bytes_again, bytes_done}
use Rattle.batches.proofs.put_column.Goals as goal

pub loop-q-preserved : goal.loop-q-preserved
loop-q-preserved c = bytes_again _ _ _ _ _ _ _ _ c.loop-q.invariant c.put_bits-in-loop-q.ensures

pub returns : goal.returns
returns c = search bytes_done
