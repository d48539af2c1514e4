-- An answer is one in document 01's numbers.
-- Assumes nothing.
use mathlib.Core.Path.{◌≡◌, refl}
use Rattle.std.proofs.Common.{Result}
use Rattle.std.specs.Prelude.{⊤, []}
use Rattle.tables.specs.declared.refusal.Refusal.{Refusal}
use Rattle.tables.proofs.AnswerLaws.{one_answered}
use Rattle.links.specs.Links.{linked_as}

-- two answers with the same numbers are one
pub one_answer : (r₁ r₂ : Result ⊤ Refusal) → linked_as r₁ ≡ linked_as r₂ → r₁ ≡ r₂
one_answer = one_answered (λ _. []) (λ a b e. refl)
