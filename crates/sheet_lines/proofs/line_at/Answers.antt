-- `sheet_lines::line_at` meets its contract.
use Rattle.sheet_lines.proofs.LineLaws.{line_out}
use Rattle.sheet_lines.proofs.line_at.Goals as goal

pub returns-then-sheet-at : goal.returns-then-sheet-at
returns-then-sheet-at c = search line_out
