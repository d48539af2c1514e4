-- Each contract leaves one answer, in all its fields, and one content of each buffer: so does any contract `given fields buffers ≡ o`.
-- Assumes nothing.
use mathlib.Core.Path.{◌≡◌, sym, ap, ◌∙◌}
use mathlib.Core.List.{List, [], ◌∷◌}
use Prim.Native.Nat.{ℕ}
use lib.ListN.{get_or}
use Rattle.boundary.specs.declared.ElectedC.{ElectedC}
use Rattle.boundary.specs.declared.OpenedC.{OpenedC}
use Rattle.boundary.specs.declared.ToldC.{ToldC}
use Rattle.boundary.specs.declared.AnsweredC.{AnsweredC}
use Rattle.boundary.specs.C.{Given, given, elected_fields, opened_fields, told_fields, answered_fields}

-- the answers' structs out of their fields again
abbrev elected_of : List ℕ → ElectedC
elected_of fs = record { refusal = get_or fs 0 0; priority = get_or fs 1 0; address = get_or fs 2 0 }

abbrev opened_of : List ℕ → OpenedC
opened_of fs = record { refusal = get_or fs 0 0; outcome = get_or fs 1 0; phy = get_or fs 2 0 }

abbrev told_of : List ℕ → ToldC
told_of fs = record { refusal = get_or fs 0 0; count = get_or fs 1 0 }

abbrev answered_of : List ℕ → AnsweredC
answered_of fs = record { refusal = get_or fs 0 0; result = get_or fs 1 0; length = get_or fs 2 0; count = get_or fs 3 0 }

module _ (o : Given) (bs cs : List (List ℕ)) where
  pub one : (fs gs : List ℕ) → given fs bs ≡ o → given gs cs ≡ o → (fs ≡ gs) × (bs ≡ cs)
  one fs gs p q = let e : given fs bs ≡ given gs cs = p ∙ sym q in (cc, cc)

  pub number_unique : (r s : ℕ) → given (r ∷ []) bs ≡ o → given (s ∷ []) cs ≡ o → (r ≡ s) × (bs ≡ cs)
  number_unique r s p q = let e = one _ _ p q in (ap (λ (fs : List ℕ). get_or fs 0 0) e.0, e.1)

  pub elected_unique : (r s : ElectedC) → given (elected_fields r) bs ≡ o → given (elected_fields s) cs ≡ o → (r ≡ s) × (bs ≡ cs)
  elected_unique r s p q = let e = one _ _ p q in (ap elected_of e.0, e.1)

  pub opened_unique : (r s : OpenedC) → given (opened_fields r) bs ≡ o → given (opened_fields s) cs ≡ o → (r ≡ s) × (bs ≡ cs)
  opened_unique r s p q = let e = one _ _ p q in (ap opened_of e.0, e.1)

  pub told_unique : (r s : ToldC) → given (told_fields r) bs ≡ o → given (told_fields s) cs ≡ o → (r ≡ s) × (bs ≡ cs)
  told_unique r s p q = let e = one _ _ p q in (ap told_of e.0, e.1)

  pub answered_unique : (r s : AnsweredC) → given (answered_fields r) bs ≡ o → given (answered_fields s) cs ≡ o → (r ≡ s) × (bs ≡ cs)
  answered_unique r s p q = let e = one _ _ p q in (ap answered_of e.0, e.1)
