-- `sheet_lines::number_at` meets its contract.
use Rattle.sheet_lines.proofs.LineLaws.{figured, number_out, number_none, number_zero, number_more}
use Rattle.sheet_lines.proofs.number_at.Goals as goal

pub returns-then-sheet-at : goal.returns-then-sheet-at
returns-then-sheet-at c = search number_out

pub returns-then-not-is_figure : goal.returns-then-not-is_figure
returns-then-not-is_figure c = search number_none

pub returns-then-c-eq48 : goal.returns-then-c-eq48
returns-then-c-eq48 c = search number_zero

pub figure_value-requires : goal.figure_value-requires
figure_value-requires c = search figured

pub returns : goal.returns
returns c = search number_more
