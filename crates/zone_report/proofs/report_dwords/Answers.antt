-- `zone_report::report_dwords` meets its contract.
use Rattle.zone_report.proofs.ReportLaws.{report_long, report-start, dwords_down, dwords_rows}
use Rattle.zone_report.proofs.report_dwords.Goals as goal

pub returns-in-Err : goal.returns-in-Err
returns-in-Err c = dwords_down _ _ _ _ _ _ _ c.in-Err.ensures.number c.in-Err.ensures.turned_down

pub row_count-requires : goal.row_count-requires
row_count-requires c = search (report_long, report-start, c.in-Ok.ensures.number)

pub returns-in-Ok : goal.returns-in-Ok
returns-in-Ok c = search (dwords_rows, c.in-Ok.ensures.number)
