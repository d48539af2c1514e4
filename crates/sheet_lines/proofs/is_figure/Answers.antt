-- `sheet_lines::is_figure` meets its contract.
use Rattle.sheet_lines.proofs.LineLaws.{figure_low, figure_high}
use Rattle.sheet_lines.proofs.is_figure.Goals as goal

pub returns-then-c-lt48 : goal.returns-then-c-lt48
returns-then-c-lt48 c = search figure_low

pub returns : goal.returns
returns c = search figure_high
