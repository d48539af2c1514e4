-- An answer is one in document 01's numbers.
-- Assumes nothing.
use mathlib.Core.Path.{◌≡◌}
use Prim.Native.Nat.{ℕ}
use Rattle.std.proofs.Common.{Result, [], ◌∷◌}
use Rattle.tables.specs.declared.refusal.Refusal.{Refusal}
use Rattle.tables.proofs.AnswerLaws.{one_answered}
use Rattle.exports.specs.Export.{exported_as}

-- two answers that say the same in document 01's numbers are the same
pub one_answer : (r q : Result ℕ Refusal) → exported_as r ≡ exported_as q → r ≡ q
one_answer = one_answered (λ n. n ∷ []) (λ a b e. cc)
