-- `sheet_lines::figures_at` meets its contract.
use Rattle.sheet_lines.proofs.LineLaws.{scan_start, scan_value, figured, scan_again, scan_stop, scan_out}
use Rattle.sheet_lines.proofs.figures_at.Goals as goal

pub loop-i-init : goal.loop-i-init
loop-i-init c = search scan_start

pub returns-then-not-is_figure : goal.returns-then-not-is_figure
returns-then-not-is_figure c = search scan_stop

pub more-value-requires : goal.more-value-requires
more-value-requires c = (search scan_value, search figured)

pub loop-i-preserved : goal.loop-i-preserved
loop-i-preserved c = search scan_again

pub returns : goal.returns
returns c = search scan_out
