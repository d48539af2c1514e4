-- `orders_text::put_answer` meets its contract.
use Rattle.std.proofs.Common.{ap, ◌∙◌, Ok}
use Rattle.orders_text.proofs.AnswerLaws.{whole_answer, stop_answer}
use borrow.Author.Rules.{rules}
use Rattle.orders_text.proofs.put_answer.Goals as goal

pub returns-in-Ok-Whole : goal.returns-in-Ok-Whole
returns-in-Ok-Whole c =
    whole_answer _ _ _ _ (search rules) _ _ c.give_orders.ensures _ (c.in-Ok-Whole.is ∙ ap Ok c.in-Ok-Whole.field-0-is) c.put_pairs.ensures

pub returns-in-Ok-Stopped : goal.returns-in-Ok-Stopped
returns-in-Ok-Stopped c =
    stop_answer _ _ _ _ (search rules) _ _ c.give_orders.ensures _ _ (c.in-Ok-Stopped.is ∙ ap Ok c.in-Ok-Stopped.field-0-is) c.put_stop.ensures
