-- Outcomes for C: a refusal hides all that comes after its row, so a number that its own row refuses may be clamped first.
-- Assumes nothing.
use mathlib.Core.Path.{◌≡◌, refl, sym, ap, ◌∙◌}
use mathlib.Core.Bool.{Bool, true, false, cond}
use mathlib.Core.List.{List, [], ◌∷◌, ◌++◌}
use Prim.Native.Nat.{ℕ, zero, suc, min, ◌≤◌, ◌<◌}
use native.Mathlib.Decide.{ℕ_discrete, dec_lt}
use native.Mathlib.Omega.{arith}
use Rattle.std.proofs.Common.{Result, Ok, Err}
use Rattle.std.specs.Bool.{⊤}
use Rattle.std.specs.Result.{result_and}
use Rattle.tables.specs.declared.refusal.Refusal.{Refusal}
use Rattle.tables.specs.Numbers.{number, refused, answered_by, answered}
use Rattle.tables.proofs.AnswerLaws.{number_above}
use Rattle.tables.specs.Refusals.{Test, holds, Check, refuse, first_refusal, Clear}
use Rattle.tables.specs.Outcome.{Answer, refusal, Out, out, outcome}
use Rattle.tables.proofs.RefusalLaws.{Holds, Numbered, first, here, clear, front, back}
use Rattle.tables.proofs.OutcomeLaws.{refused_keeps}
use Rattle.boundary.specs.C.{given, fields, InFields, in_c, or_else}

-- ---- the library's answer a, told in the fields fs
pub crosses : (k : ℕ) (fs : List ℕ) (a : Answer) (bs : List (List ℕ)) (o : Out) → fs ≡ fields k a → out a bs ≡ o → given fs bs ≡ in_c k o
crosses k fs a bs o e q = ap (λ (x : List ℕ). given x bs) e ∙ ap (in_c k) q

-- ---- what a call gave, where its refusal converts to one number alone
module _ {A E : Type 0} (k : ℕ) (converts : E → ℕ → Type 0) (values : A → List ℕ) (n : E → ℕ) (one : (e : E) (m : ℕ) → converts e m → m ≡ n e) where
  pub in_fields : (r : Result A E) (fs : List ℕ) → InFields k converts values r fs → fs ≡ fields k (answered_by n values r)
  in_fields (Ok a) fs h = h
  in_fields (Err e) fs (m, c, q) = q ∙ ap (λ (x : ℕ). fields k (refusal x)) (one e m c)

-- a named refusal converts to its number: the fields are those of `linked_as`, `opened_as`, `told_as`
pub named_in_fields : {A : Type 0} (k : ℕ) (values : A → List ℕ) (r : Result A Refusal) (fs : List ℕ) → InFields k (λ e m. m ≡ number e) values r fs
    → fs ≡ fields k (answered values r)
named_in_fields k values = in_fields k (λ e m. m ≡ number e) values number (λ e m c. c)

-- a bare number converts to itself
pub number_in_fields : {A : Type 0} (k : ℕ) (values : A → List ℕ) (r : Result A ℕ) (fs : List ℕ) → InFields k (λ e m. m ≡ e) values r fs
    → fs ≡ fields k (answered_by (λ e. e) values r)
number_in_fields k values = in_fields k (λ e m. m ≡ e) values (λ e. e) (λ e m c. c)

-- ---- `or_else`, by the two cases
pub else_same : (n own : ℕ) → (n ≡ 0 → ⊥) → n ≡ or_else n own
unfolding or_else
else_same zero own h = absurd (h refl)
else_same (suc n) own h = refl

pub else_own : (n own : ℕ) → n ≡ 0 → own ≡ or_else n own
unfolding or_else
else_own zero own e = refl
else_own (suc n) own e = absurd (omega arith)

-- a check r, and where it passes the boundary's own refusal: what a call answers
pub turned_down : {A : Type 0} (f : A → List ℕ) (r : Result ⊤ Refusal) (own : Refusal) (j : Result A Refusal) → j ≡ result_and r (Err own)
    → answered f j ≡ refusal (or_else (refused r) (number own))
unfolding or_else
turned_down f (Ok x) own j e = rw e
turned_down f (Err x) own j e = rw e (ap refusal (else_same (number x) (number own) (number_above x)))

else_some : (n m : ℕ) → or_else n (suc m) ≡ 0 → ⊥
unfolding or_else
else_some zero m e = omega arith
else_some (suc n) m e = omega arith

-- ---- rows `pre`, then rows that give one number wherever those let pass
module _ (pre : List Check) (n : ℕ) (xs : List Check) (k : Numbered pre) (h : Clear pre → suc n ≡ first_refusal xs) where
  stops : first_refusal (pre ++ xs) ≡ or_else (first_refusal pre) (suc n)
  stops = go (ℕ_discrete (first_refusal pre) 0)
    where
      go : Dec (first_refusal pre ≡ 0) → first_refusal (pre ++ xs) ≡ or_else (first_refusal pre) (suc n)
      go (yes z) =
          sym (back pre xs (first_refusal pre) (suc n) k refl z (h (clear pre (first_refusal pre) refl z k)))
          ∙ else_own (first_refusal pre) (suc n) z
      go (no d) = sym (front pre xs (first_refusal pre) refl d) ∙ else_same (first_refusal pre) (suc n) d

  pub stopped_by : (values : List ℕ) (old new : List (List ℕ))
      → outcome (first_refusal (pre ++ xs)) values old new ≡ out (refusal (or_else (first_refusal pre) (suc n))) old
  stopped_by values old new =
      refused_keeps (first_refusal (pre ++ xs)) values old new (λ z. else_some (first_refusal pre) n (sym stops ∙ z))
      ∙ ap (λ (m : ℕ). out (refusal m) old) stops

-- so with a row that holds there: what comes after it plays no part
pub stopped : (pre : List Check) (n : ℕ) (t : Test) (xs : List Check) → Numbered pre → (Clear pre → Holds t) → (values : List ℕ) (old new : List (List ℕ))
    → outcome (first_refusal (pre ++ refuse (suc n) t ∷ xs)) values old new ≡ out (refusal (or_else (first_refusal pre) (suc n))) old
stopped pre n t xs k h = stopped_by pre n (refuse (suc n) t ∷ xs) k (λ c. first (here (h c)))

-- ---- a row of the number that follows anyway decides nothing
pub as_follows : (pre : List Check) (n : ℕ) (t u : Test)
    → or_else (first_refusal (pre ++ refuse (suc n) t ∷ [])) (suc n) ≡ or_else (first_refusal (pre ++ refuse (suc n) u ∷ [])) (suc n)
unfolding first_refusal or_else
as_follows [] n t u = last (holds t) ∙ sym (last (holds u))
  where
    last : (b : Bool) → or_else (cond b (suc n) 0) (suc n) ≡ suc n
    last true = refl
    last false = refl
as_follows (refuse m s ∷ pre) n t u = either (holds s) _ _ (as_follows pre n t u)
  where
    either : (b : Bool) (x y : ℕ) → or_else x (suc n) ≡ or_else y (suc n) → or_else (cond b m x) (suc n) ≡ or_else (cond b m y) (suc n)
    either true x y e = refl
    either false x y e = e

-- ---- rows may be exchanged for others that come to the same, behind any
pub behind : (pre xs ys : List Check) → first_refusal xs ≡ first_refusal ys → first_refusal (pre ++ xs) ≡ first_refusal (pre ++ ys)
unfolding first_refusal
behind [] xs ys e = e
behind (refuse n t ∷ pre) xs ys e = rw (behind pre xs ys e)

-- ---- what does not tell numbers from 255 on apart does not tell a number from the clamped one
pub clamped : {A : Type 0} (f : ℕ → A) → ((x y : ℕ) → 255 ≤ x → 255 ≤ y → f x ≡ f y) → (p n : ℕ) → p ≡ min n 255 → f p ≡ f n
clamped f far p n e = go (dec_lt 255 n)
  where
    go : Dec (255 < n) → f p ≡ f n
    go (yes h) = far p n (omega arith) (omega arith)
    go (no h) = ap f (omega arith)
