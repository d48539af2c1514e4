-- Outcomes: a call's two ends, that a contract of one equation leaves one outcome, and that a refusal changes nothing.
-- Assumes nothing.
use mathlib.Core.Path.{◌≡◌, refl, sym, ap, ap₂, ◌∙◌}
use mathlib.Core.List.{List}
use Prim.Native.Nat.{ℕ, zero, suc}
use native.Mathlib.Omega.{arith}
use Rattle.std.proofs.Common.{Result}
use Rattle.std.specs.Prelude.{IsErrAnd}
use Rattle.std.proofs.lemmas.Result.{err_from_is_err_and}
use Rattle.tables.specs.Numbers.{number, answered_by, answered}
use Rattle.tables.specs.declared.refusal.Refusal.{Refusal}
use Rattle.tables.proofs.AnswerLaws.{number_above}
use Rattle.tables.specs.Outcome.{Answer, refusal, answer, Out, out, outcome}

-- ---- a call is refused: a check answered the error e, which a `?` hands on in r
module _ {E : Type 0} (number_of : E → ℕ) (above : (e : E) → number_of e ≡ 0 → ⊥) where
  pub refuses_by : {A : Type 0} (f : A → List ℕ) (values : List ℕ) (r : Result A E) (e : E) (n : ℕ) (old new : List (List ℕ))
      → IsErrAnd r (λ y. y ≡ e) → number_of e ≡ n → out (answered_by number_of f r) old ≡ outcome n values old new
  unfolding outcome
  refuses_by f values r e zero old new h q = absurd (above e q)
  refuses_by f values r e (suc n) old new h q =
      let p = err_from_is_err_and r h in rw (p.1, p.2) (ap (λ (m : ℕ). out (refusal m) old) q)

pub refuses : {A : Type 0} (f : A → List ℕ) (values : List ℕ) (r : Result A Refusal) (e : Refusal) (n : ℕ) (old new : List (List ℕ))
    → IsErrAnd r (λ y. y ≡ e) → number e ≡ n → out (answered f r) old ≡ outcome n values old new
refuses = refuses_by number number_above

-- it is not: the check answered Ok
pub gives : (a : Answer) (values : List ℕ) (n : ℕ) (bs old new : List (List ℕ)) → 0 ≡ n → a ≡ answer values → bs ≡ new → out a bs ≡ outcome n values old new
unfolding outcome
gives a values zero bs old new e ea eb = ap₂ out ea eb
gives a values (suc n) bs old new e ea eb = absurd (omega arith)

-- ---- two outcomes that meet a contract of one equation on one input are equal: in the answer, and in each buffer
pub unique : {x y o : Out} → x ≡ o → y ≡ o → x ≡ y
unique p q = p ∙ sym q

-- ---- a call that is refused returns its number and leaves every buffer as it was
pub refused_keeps : (n : ℕ) (values : List ℕ) (old new : List (List ℕ)) → (n ≡ 0 → ⊥) → outcome n values old new ≡ out (refusal n) old
unfolding outcome
refused_keeps zero values old new h = absurd (h refl)
refused_keeps (suc n) values old new h = refl
