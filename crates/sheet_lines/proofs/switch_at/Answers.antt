-- `sheet_lines::switch_at` meets its contract.
use Rattle.sheet_lines.proofs.LineLaws.{switch_out, switched_0, switched_1, switch_other}
use Rattle.sheet_lines.proofs.switch_at.Goals as goal

pub returns-then-sheet-at : goal.returns-then-sheet-at
returns-then-sheet-at c = search switch_out

pub returns-then-sheet-at-eq48 : goal.returns-then-sheet-at-eq48
returns-then-sheet-at-eq48 c = search switched_0

pub returns-then-sheet-at-eq49 : goal.returns-then-sheet-at-eq49
returns-then-sheet-at-eq49 c = search switched_1

pub returns : goal.returns
returns c = search switch_other
