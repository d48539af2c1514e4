-- An answer is one in document 01's numbers.
-- Assumes nothing.
use mathlib.Core.Path.{◌≡◌, ap₂}
use mathlib.Core.List.{List, [], ◌∷◌}
use Prim.Native.Nat.{ℕ}
use Rattle.std.proofs.Common.{Result}
use Rattle.tables.specs.declared.refusal.Refusal.{Refusal}
use Rattle.tables.proofs.AnswerLaws.{one_answered}
use Rattle.election.specs.declared.Supervisor.{Supervisor}
use Rattle.election.specs.Election.{elected_as}

one_value : (a b : Supervisor) → ◌≡◌ {A = List ℕ} (a.priority ∷ a.address ∷ []) (b.priority ∷ b.address ∷ []) → a ≡ b
one_value a b e =
    let p : a.priority ≡ b.priority = cc in
    let q : a.address ≡ b.address = cc in
    ap₂ (λ (x y : ℕ). record { priority = x; address = y }) p q

-- two answers with the same numbers are one
pub one_answer : (r₁ r₂ : Result Supervisor Refusal) → elected_as r₁ ≡ elected_as r₂ → r₁ ≡ r₂
one_answer = one_answered (λ s. s.priority ∷ s.address ∷ []) one_value
