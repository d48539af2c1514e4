-- `orders_text::give_orders` meets its contract.
use Rattle.orders_text.proofs.AnswerLaws.{orders-given}
use Rattle.orders_text.proofs.give_orders.Goals as goal

pub returns : goal.returns
returns c = search orders-given
