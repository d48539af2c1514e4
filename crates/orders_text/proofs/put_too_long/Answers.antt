-- `orders_text::put_too_long` meets its contract.
use native.Mathlib.Omega.{arith}
use Rattle.orders_text.specs.OrdersText.{too_long_words, too_long_text}
use Rattle.orders_text.proofs.put_too_long.Goals as goal

pub returns : goal.returns
unfolding too_long_words too_long_text
returns c = (c.put_bytes.ensures, omega (arith, c.put_bytes.ensures.ends))
