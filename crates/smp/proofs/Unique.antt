-- An answer is one in document 01's numbers.
-- Assumes nothing.
use mathlib.Core.Path.{◌≡◌}
use mathlib.Core.List.{List, [], ◌∷◌}
use Prim.Native.Nat.{ℕ}
use Rattle.std.proofs.Common.{Result}
use Rattle.tables.specs.declared.refusal.Refusal.{Refusal}
use Rattle.tables.proofs.AnswerLaws.{one_answered}
use Rattle.requests.specs.declared.FunctionResult.{FunctionResult}
use Rattle.requests.specs.Results.{number}
use Rattle.requests.proofs.ResultLaws.{one_number}
use Rattle.smp.specs.declared.Answered.{Answered}
use Rattle.smp.specs.Smp.{answered_as}

values : Answered → List ℕ
values a = number a.result ∷ a.length ∷ a.told ∷ []

one_value : (a b : Answered) → values a ≡ values b → a ≡ b
unfolding values
one_value a b e =
    let r : number a.result ≡ number b.result = cc in
    let l : a.length ≡ b.length = cc in
    let t : a.told ≡ b.told = cc in
    same (one_number a.result b.result r) l t
  where
    same : {x y : FunctionResult} {l m t u : ℕ} → x ≡ y → l ≡ m → t ≡ u
        → ◌≡◌ {A = Answered} (record { result = x; length = l; told = t }) (record { result = y; length = m; told = u })
    same p q s = cc

-- two answers that say the same in document 01's numbers are the same
pub one_answer : (r q : Result Answered Refusal) → answered_as r ≡ answered_as q → r ≡ q
unfolding values
one_answer = one_answered values one_value
