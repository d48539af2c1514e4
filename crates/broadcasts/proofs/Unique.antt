-- An answer is one in document 01's numbers.
-- Assumes nothing.
use mathlib.Core.Path.{◌≡◌}
use mathlib.Core.List.{[], ◌∷◌}
use Prim.Native.Nat.{ℕ}
use Rattle.std.proofs.Common.{Result}
use Rattle.tables.specs.declared.refusal.Refusal.{Refusal}
use Rattle.tables.proofs.AnswerLaws.{one_answered}
use Rattle.broadcasts.specs.Broadcasts.{told_as}

-- two answers that say the same in document 01's numbers are the same
pub one_answer : (r q : Result ℕ Refusal) → told_as r ≡ told_as q → r ≡ q
one_answer = one_answered (λ n. n ∷ []) (λ a b e. cc)
