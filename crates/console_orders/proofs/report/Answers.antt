-- `console_orders::report` meets its contract.
use Rattle.tables.proofs.OutcomeLaws.{refuses_by}
use Rattle.console_orders.proofs.Unique.{number_above}
use Rattle.console_orders.proofs.BuildLaws.{report_room, report_done}
use Rattle.console_orders.proofs.report.Goals as goal

pub returns-in_err-check_report : goal.returns-in_err-check_report
returns-in_err-check_report c = refuses_by _ number_above _ _ _ _ _ _ _ c.from_residual.ensures.1 c.in_err-check_report.ensures

pub write_eight-requires : goal.write_eight-requires
write_eight-requires c = search (report_room, c.in_ok-check_report.ensures)

pub returns : goal.returns
returns c = search (report_done, c.in_ok-check_report.ensures)
