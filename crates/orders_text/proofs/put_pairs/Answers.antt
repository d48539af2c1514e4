-- `orders_text::put_pairs` meets its contract.
use Rattle.orders_text.proofs.AnswerLaws.{pairs_done, export_taken}
use borrow.Author.Rules.{rules}
use Rattle.orders_text.proofs.put_pairs.Goals as goal

pub returns-in-Ok : goal.returns-in-Ok
returns-in-Ok c = pairs_done _ _ _ _ (search rules) (search rules) c.export_sheet.ensures _ c.in-Ok.is

pub returns-in-Err : goal.returns-in-Err
returns-in-Err c = absurd (search export_taken)
