-- The loop that judges each of a run, and what is known where each passed.
-- Assumes nothing.
use mathlib.Core.Path.{◌≡◌, refl, sym, ap, ◌∙◌}
use mathlib.Core.Bool.{Bool, true, false, not, ◌&&◌, true≢false}
use Prim.Native.Nat.{ℕ, zero, suc, ◌+◌, ◌-◌, ◌≤◌, ◌<◌}
use native.Mathlib.Nat.{sub-zero}
use native.Mathlib.Numerals.{add-one}
use native.Mathlib.Decide.{dec_lt}
use native.Mathlib.Omega.{arith}
use borrow.Author.Tests.{not-true, not-false}
use Rattle.wire.specs.Runs.{every}
use Rattle.wire.proofs.Loops.{left}

-- those before i passed, so that `whole`, whether all pass, is whether the rest does
pub record Judged (whole : Bool) (f : ℕ → Bool) (k i : ℕ) : Type 0 where
  pub within : i ≤ k
  pub rest : whole ≡ every f i (k - i)

pub judged_start : (f : ℕ → Bool) (k : ℕ) → Judged (every f 0 k) f k 0
judged_start f k = record { within = omega arith; rest = rw (sub-zero k) }

pub judged_from : (whole : Bool) (f : ℕ → Bool) (k i : ℕ) → i ≤ k → whole ≡ every f i (k - i) → Judged whole f k i
judged_from whole f k i h e = record { within = h; rest = e }

module _ (whole : Bool) (f : ℕ → Bool) (k i : ℕ) (v : Bool) (h : i < k) (e : v ≡ f i) (j : Judged whole f k i) where
  pub judged_off : not v ≡ true → false ≡ whole
  unfolding every
  judged_off t = sym (j.rest ∙ rw (left k i h, ← e, not-true v t))

  pub judged_again : not v ≡ false → Judged whole f k (i + 1)
  unfolding every
  judged_again t = record { within = omega arith; rest = j.rest ∙ rw (left k i h, ← e, not-false v t, add-one i) }

pub judged_end : (whole : Bool) (f : ℕ → Bool) (k i : ℕ) → k ≤ i → Judged whole f k i → true ≡ whole
unfolding every
judged_end whole f k i h j = let l = j.within in let z : k - i ≡ 0 = omega arith in sym (j.rest ∙ rw z)

-- each of them passes where all do
pub every_at : (f : ℕ → Bool) (i n k : ℕ) → i ≤ k → k < i + n → every f i n ≡ true → f k ≡ true
unfolding every
every_at f i zero k l h e = absurd (omega arith)
every_at f i (suc n) k l h e = go (f i) refl (every_at f (suc i) n k) e
  where
    here : (i k : ℕ) → i ≤ k → (suc i ≤ k → ⊥) → i ≡ k
    here i k a b = omega arith

    go : (b : Bool) → f i ≡ b → (suc i ≤ k → k < suc i + n → every f (suc i) n ≡ true → f k ≡ true) → (b && every f (suc i) n) ≡ true → f k ≡ true
    go true q later p = pick (dec_lt i k)
      where
        pick : Dec (i < k) → f k ≡ true
        pick (yes a) = later (omega arith) (omega arith) p
        pick (no a) = ap f (sym (here i k l (λ z. a (omega arith)))) ∙ q
    go false q later p = absurd (true≢false (sym p))

-- and all do where each does
pub every_all : (f : ℕ → Bool) (i n : ℕ) → ((k : ℕ) → i ≤ k → k < i + n → f k ≡ true) → every f i n ≡ true
unfolding every
every_all f i zero h = refl
every_all f i (suc n) h = rw (h i (omega arith) (omega arith)) (every_all f (suc i) n (λ k l u. h k (omega arith) (omega arith)))
