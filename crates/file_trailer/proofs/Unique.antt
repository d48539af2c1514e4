-- A save's answer, and a load's, is one in its numbers.
-- Assumes nothing.
use mathlib.Core.Path.{◌≡◌, refl}
use Prim.Native.Nat.{ℕ}
use Rattle.std.proofs.Common.{Result, [], ◌∷◌}
use Rattle.tables.specs.declared.refusal.Refusal.{Refusal}
use Rattle.tables.proofs.AnswerLaws.{one_answered}
use Rattle.file_trailer.specs.Answers.{saved_as, version_number, loaded_as}
use Rattle.file_trailer.specs.declared.Version.{Version}
use Rattle.file_trailer.specs.declared.Version.TheVariants.{One, Two}

pub one_save : (r q : Result ℕ Refusal) → saved_as r ≡ saved_as q → r ≡ q
one_save = one_answered (λ n. n ∷ []) (λ a b e. cc)

one_version : (a b : Version) → version_number a ∷ [] ≡ version_number b ∷ [] → a ≡ b
one_version One One e = refl
one_version One Two e = cc
one_version Two One e = cc
one_version Two Two e = refl

pub one_load : (r q : Result Version Refusal) → loaded_as r ≡ loaded_as q → r ≡ q
one_load = one_answered (λ v. version_number v ∷ []) one_version
