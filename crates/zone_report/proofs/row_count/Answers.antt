-- `zone_report::row_count` meets its contract.
use Rattle.zone_report.specs.ZoneReport.{row_count}
use native.Mathlib.Omega.{arith}
use Rattle.zone_report.proofs.row_count.Goals as goal

pub returns : goal.returns
unfolding row_count
returns c = omega arith
