-- `zone_report::write_report` meets its contract.
use Rattle.zone_report.specs.ZoneReport.{row_count}
use Rattle.zone_report.proofs.ReportLaws.{written}
use native.Mathlib.Omega.{arith}
use borrow.Author.Rules.{rules}
use lib.ListN.{length-append, length-take, length-drop}
use Rattle.zone_report.proofs.write_report.Goals as goal

pub overflow_mul-count : goal.overflow_mul-count
unfolding row_count
overflow_mul-count c = omega arith

pub overflow_add-count : goal.overflow_add-count
unfolding row_count
overflow_add-count c = omega arith

pub report_rows-requires : goal.report_rows-requires
unfolding row_count
report_rows-requires c = (search rules, omega arith, simp (length-append, length-take, length-drop) (omega arith))

pub returns : goal.returns
returns c = search written
