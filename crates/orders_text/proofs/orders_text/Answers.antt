-- `orders_text::orders_text` meets its contract.
use Rattle.orders_text.proofs.AnswerLaws.{too_long}
use Rattle.orders_text.proofs.orders_text.Goals as goal

pub returns-then-sheet-gt-SHEET_MOST : goal.returns-then-sheet-gt-SHEET_MOST
returns-then-sheet-gt-SHEET_MOST c = too_long _ _ _ _ c.if-sheet-gt-SHEET_MOST.true c.put_too_long.ensures
