-- `batches::batch` meets its contract: the rows that are left, done to the table as it is, give what the whole batch gives.
-- the code's part of a slice from 12 to its end is what is left after 12
use lib.ListN.{drop}
use Rattle.permit.proofs.HistoryLaws.{BatchLeft}
use Rattle.batches.proofs.batch.Given as goal

abbrev pub invariant-loop-i : goal.invariant-loop-i
invariant-loop-i l = BatchLeft l.width (drop 12 l.request) l.start.0 l.count l.initial.permissions l.permissions l.i
