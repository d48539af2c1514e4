-- `zone_report::report_zone_permission` meets its contract.
use Rattle.requests.proofs.RequestLaws.{leaves_down}
use Rattle.zone_report.specs.ZoneReport.{report_reply}
use Rattle.zone_report.proofs.ReportLaws.{report_long, report-start, report_done}
use Rattle.zone_report.proofs.report_zone_permission.Goals as goal

pub returns-in-Err : goal.returns-in-Err
unfolding report_reply
returns-in-Err c = leaves_down _ _ _ _ _ _ _ _ _ _ _ _ _ _ c.in-Err.ensures.number c.in-Err.ensures.turned_down (c.turn_down.ensures _ _)

pub row_count-count-requires : goal.row_count-count-requires
row_count-count-requires c = search (report_long, report-start, c.in_default.ensures.number)

pub write_report-requires : goal.write_report-requires
write_report-requires c = search (report_long, report-start, c.in_default.ensures.number)

pub returns : goal.returns
returns c = search (report_done, c.in_default.ensures.number)
