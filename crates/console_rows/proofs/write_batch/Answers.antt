-- `console_rows::write_batch` meets its contract.
use Rattle.console_rows.proofs.BatchLaws.{batch-length, batch-written}
use Rattle.console_rows.proofs.write_batch.Goals as goal

pub returns : goal.returns
returns c = search (batch-length, batch-written)
