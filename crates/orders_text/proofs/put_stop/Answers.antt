-- `orders_text::put_stop` meets its contract.
use Rattle.orders_text.specs.OrdersText.{line_word, colon}
use Rattle.orders_text.proofs.AnswerLaws.{stop_done}
use Rattle.orders_text.proofs.put_stop.Goals as goal

pub returns : goal.returns
unfolding line_word colon
returns c = stop_done _ _ _ _ _ _ _ _ _ _ _ _ _ _ c.put_bytes-a.ensures c.put_decimal-b.ensures c.put_bytes-c.ensures c.cause_said.ensures c.put_bytes-d.ensures c.put_byte.ensures
