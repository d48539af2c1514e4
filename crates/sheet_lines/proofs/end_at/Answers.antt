-- `sheet_lines::end_at` meets its contract.
use Rattle.sheet_lines.proofs.LineLaws.{end_out, end_lf, end_other, end_cr_out, end_cr_other, end_crlf}
use Rattle.sheet_lines.proofs.end_at.Goals as goal

pub returns-then-sheet-at : goal.returns-then-sheet-at
returns-then-sheet-at c = search end_out

pub returns-then-sheet-at-eq-LF : goal.returns-then-sheet-at-eq-LF
returns-then-sheet-at-eq-LF c = search end_lf

pub returns-then-sheet-at-ne-CR : goal.returns-then-sheet-at-ne-CR
returns-then-sheet-at-ne-CR c = search end_other

pub returns-then-sheet-after : goal.returns-then-sheet-after
returns-then-sheet-after c = search end_cr_out

pub returns-then-sheet-after-ne-LF : goal.returns-then-sheet-after-ne-LF
returns-then-sheet-after-ne-LF c = search end_cr_other

pub returns : goal.returns
returns c = search end_crlf
