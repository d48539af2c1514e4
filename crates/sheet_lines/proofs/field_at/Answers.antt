-- `sheet_lines::field_at` meets its contract.
use Rattle.sheet_lines.proofs.LineLaws.{field_none, field_out, field_other, field_read}
use Rattle.sheet_lines.proofs.field_at.Goals as goal

pub returns-in_err-number : goal.returns-in_err-number
returns-in_err-number c = rw c.from_residual.ensures (field_none _ c.in_err-number.ensures)

pub returns-then-sheet-number : goal.returns-then-sheet-number
returns-then-sheet-number c = field_out _ _ _ _ _ c.in_ok-number.ensures c.if-sheet-number.true

pub returns-then-sheet-number-ne44 : goal.returns-then-sheet-number-ne44
returns-then-sheet-number-ne44 c = field_other _ _ _ _ _ c.in_ok-number.ensures c.if-sheet-number.false c.if-sheet-number-ne44.true

pub returns : goal.returns
returns c = field_read _ _ _ _ _ c.in_ok-number.ensures c.if-sheet-number.false c.if-sheet-number-ne44.false
