-- `console_reading::read` meets its contract.
use Rattle.tables.proofs.OutcomeLaws.{refuses_by}
use Rattle.console_orders.proofs.Unique.{number_above}
use Rattle.console_reading.proofs.ReadLaws.{read_long, read_room, read_rows, read_report, read_result}
use Rattle.console_reading.proofs.read.Goals as goal

pub returns-in_err-check_read : goal.returns-in_err-check_read
returns-in_err-check_read c = refuses_by _ number_above _ _ _ _ _ _ _ c.from_residual.ensures.1 c.in_err-check_read.ensures

pub is_report-requires : goal.is_report-requires
is_report-requires c = search (read_long, c.in_ok-check_read.ensures)

pub read_report-requires : goal.read_report-requires
read_report-requires c = search (read_rows, read_room, c.in_ok-check_read.ensures)

pub returns-then-is_report : goal.returns-then-is_report
returns-then-is_report c = search (read_report, c.in_ok-check_read.ensures)

pub read_result-requires : goal.read_result-requires
read_result-requires c = search (read_long, c.in_ok-check_read.ensures)

pub returns : goal.returns
returns c = search (read_result, c.in_ok-check_read.ensures)
