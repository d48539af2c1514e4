-- `console_rows::batch` meets its contract.
use Rattle.tables.proofs.OutcomeLaws.{refuses_by}
use Rattle.tables.proofs.RefusalLaws.{clear}
use Rattle.console_orders.proofs.Unique.{number_above}
use Rattle.console_orders.proofs.BuildLaws.{built}
use Rattle.console_rows.proofs.batch.Goals as goal

pub returns-in_err-check_batch : goal.returns-in_err-check_batch
returns-in_err-check_batch c = refuses_by _ number_above _ _ _ _ _ _ _ c.from_residual.ensures.1 c.in_err-check_batch.ensures

pub write_batch-requires : goal.write_batch-requires
write_batch-requires c = search (clear, c.in_ok-check_batch.ensures)

pub returns : goal.returns
returns c = search (built, c.in_ok-check_batch.ensures)
