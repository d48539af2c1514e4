-- Reading leaves one answer and one content of its buffer.
-- Assumes nothing.
use mathlib.Core.Path.{◌≡◌, sym, ◌∙◌}
use mathlib.Core.List.{List}
use Prim.Native.Nat.{ℕ}
use Rattle.std.proofs.Common.{Result}
use Rattle.tables.specs.Outcome.{Out, out}
use Rattle.tables.proofs.AnswerLaws.{one_answered_by}
use Rattle.console_orders.specs.declared.Refusal.{Refusal}
use Rattle.console_orders.specs.Building.{number}
use Rattle.console_orders.proofs.Unique.{one_number, answers, buffers}
use Rattle.console_reading.specs.declared.Heard.{Heard}
use Rattle.console_reading.specs.declared.Heard.TheVariants as says
use Rattle.console_reading.specs.Reading.{heard_values, heard_as}

one_value : (a b : Heard) → heard_values a ≡ heard_values b → a ≡ b
one_value (says.Result f r) (says.Result g s) e = cc
one_value (says.Result f r) (says.Rows a b) e = cc
one_value (says.Rows a b) (says.Result f r) e = cc
one_value (says.Rows a b) (says.Rows x y) e = cc

one_heard : (r q : Result Heard Refusal) → heard_as r ≡ heard_as q → r ≡ q
one_heard = one_answered_by number heard_values one_number one_value

pub heard_once : (r q : Result Heard Refusal) (xs ys : List (List ℕ)) (o : Out) → out (heard_as r) xs ≡ o → out (heard_as q) ys ≡ o → (r ≡ q) × (xs ≡ ys)
heard_once r q xs ys o e f = (one_heard r q (answers (e ∙ sym f)), buffers (e ∙ sym f))
