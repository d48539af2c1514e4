-- `sheet_lines::short_line_at` meets its contract.
use Rattle.sheet_lines.proofs.LineLaws.{line_read}
use Rattle.sheet_lines.proofs.short_line_at.Goals as goal

pub returns : goal.returns
returns c = line_read _ _ _ _ c.in_ok-a.ensures.0 _ _ c.in_ok-b.ensures.0 _ _ c.in_ok-on.ensures.0
