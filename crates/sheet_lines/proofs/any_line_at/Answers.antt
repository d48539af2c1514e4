-- `sheet_lines::any_line_at` meets its contract.
use Rattle.sheet_lines.proofs.LineLaws.{line_none, line_none_2, line_none_3, line_read}
use Rattle.sheet_lines.proofs.any_line_at.Goals as goal

pub returns-in_err-first : goal.returns-in_err-first
returns-in_err-first c = rw c.from_residual.ensures (line_none c.args.sheet.now c.args.at c.in_err-first.ensures)

pub returns-in_err-second : goal.returns-in_err-second
returns-in_err-second c =
    rw c.from_residual-in_err-second.ensures (line_none_2 c.args.sheet.now c.args.at _ _ c.in_ok-first.ensures c.in_err-second.ensures)

pub returns-in_err-on : goal.returns-in_err-on
returns-in_err-on c =
    rw c.from_residual-in_err-on.ensures
    (line_none_3 c.args.sheet.now c.args.at _ _ c.in_ok-first.ensures _ _ c.in_ok-second.ensures c.in_err-on.ensures)

pub returns : goal.returns
returns c = line_read _ _ _ _ c.in_ok-first.ensures _ _ c.in_ok-second.ensures _ _ c.in_ok-on.ensures
