-- Each function that builds leaves one answer and one content of its buffer.
-- Assumes nothing.
use mathlib.Core.Path.{◌≡◌, refl, sym, ap, ◌∙◌}
use mathlib.Core.Bool.{cond}
use mathlib.Core.List.{List}
use Prim.Native.Nat.{ℕ}
use native.Mathlib.Omega.{arith}
use lib.Dec.{eqb}
use Rattle.std.proofs.Common.{Result}
use Rattle.tables.specs.Outcome.{Answer, Out, out}
use Rattle.tables.proofs.AnswerLaws.{one_answered_by}
use Rattle.console_orders.specs.declared.Refusal.{Refusal}
use Rattle.console_orders.specs.declared.Refusal.TheVariants.{NoRoom, TooMany, TooHigh, WouldFail, NoResponse}
use Rattle.console_orders.specs.Building.{number, built_as}

-- each refusal has its own number, above 0
numbered : ℕ → Refusal
numbered n = cond (eqb n 21) NoRoom (cond (eqb n 22) TooMany (cond (eqb n 23) TooHigh (cond (eqb n 24) WouldFail NoResponse)))

numbered_back : (a : Refusal) → numbered (number a) ≡ a
unfolding numbered
numbered_back NoRoom = refl
numbered_back TooMany = refl
numbered_back TooHigh = refl
numbered_back WouldFail = refl
numbered_back NoResponse = refl

pub one_number : (a b : Refusal) → number a ≡ number b → a ≡ b
one_number a b e = sym (numbered_back a) ∙ ap numbered e ∙ numbered_back b

pub number_above : (e : Refusal) → number e ≡ 0 → ⊥
number_above NoRoom h = omega arith
number_above TooMany h = omega arith
number_above TooHigh h = omega arith
number_above WouldFail h = omega arith
number_above NoResponse h = omega arith

one_built : (r q : Result ℕ Refusal) → built_as r ≡ built_as q → r ≡ q
one_built = one_answered_by number _ one_number (λ a b e. cc)

pub answers : {a b : Answer} {xs ys : List (List ℕ)} → out a xs ≡ out b ys → a ≡ b
answers e = cc

pub buffers : {a b : Answer} {xs ys : List (List ℕ)} → out a xs ≡ out b ys → xs ≡ ys
buffers e = cc

-- of phy_zones, single, batch and report
pub built_once : (r q : Result ℕ Refusal) (xs ys : List (List ℕ)) (o : Out) → out (built_as r) xs ≡ o → out (built_as q) ys ≡ o → (r ≡ q) × (xs ≡ ys)
built_once r q xs ys o e f = (one_built r q (answers (e ∙ sym f)), buffers (e ∙ sym f))
