-- The loop that puts texts one behind the other, and how long they are together.
-- Assumes nothing.
use mathlib.Core.Path.{◌≡◌, refl, sym, ap, ◌∙◌}
use mathlib.Core.List.{List, [], ◌++◌, append-nil, append_assoc}
use Prim.Native.Nat.{ℕ, zero, suc, ◌+◌, ◌-◌, ◌*◌, ◌≤◌, ◌<◌}
use native.Mathlib.Nat.{add-zero, zero-add}
use native.Mathlib.Numerals.{add-one}
use native.Mathlib.Omega.{arith}
use lib.ListN.{length, drop, length-append}
use lib.Seq.{sets-eq}
use Rattle.wire.specs.Runs.{texts}
use Rattle.wire.proofs.Loops.{left}
use Rattle.lines.specs.Written.{written, Wrote}
use Rattle.lines.proofs.Lines.{length-written, behind}

pub wrote_nothing : (t : List ℕ) (at : ℕ) → Wrote t at [] at t
unfolding written
wrote_nothing t at = record { ends = sym (add-zero at); wrote = refl }

pub wrote_length : (t t₁ : List ℕ) (at end : ℕ) (a : List ℕ) → Wrote t at a end t₁ → length t₁ ≡ length t
wrote_length t t₁ at end a p = ap length p.wrote ∙ length-written t at a

-- what was put from the first byte on stands in front of what was behind it
pub wrote_front : (t t₁ : List ℕ) (end : ℕ) (a : List ℕ) → Wrote t 0 a end t₁ → length a ≤ length t → t₁ ≡ a ++ drop (length a) t
unfolding written
wrote_front t t₁ end a p h = p.wrote ∙ sets-eq a t 0 (omega arith) ∙ ap (λ (m : ℕ). a ++ drop m t) (zero-add (length a))

-- ---- a loop that puts the texts of lo, lo + 1, .., below hi: those below k are put
pub record Putting (f : ℕ → List ℕ) (lo hi : ℕ) (text₀ : List ℕ) (at : ℕ) (text : List ℕ) (end k : ℕ) : Type 0 where
  pub from : lo ≤ k
  pub up_to : k ≤ hi
  pub put : List ℕ
  pub wrote : Wrote text₀ at put end text
  pub rest : texts f lo (hi - lo) ≡ put ++ texts f k (hi - k)

texts_step : (f : ℕ → List ℕ) (k hi : ℕ) → k < hi → texts f k (hi - k) ≡ f k ++ texts f (k + 1) (hi - (k + 1))
unfolding texts
texts_step f k hi h = rw (left hi k h, add-one k)

module _ (f : ℕ → List ℕ) (lo hi : ℕ) (text₀ : List ℕ) (at : ℕ) where
  pub putting_start : lo ≤ hi → Putting f lo hi text₀ at text₀ at lo
  putting_start h = record { from = omega arith; up_to = h; put = []; wrote = wrote_nothing text₀ at; rest = refl }

  module _ (text : List ℕ) (end k : ℕ) (p : Putting f lo hi text₀ at text end k) where
    pub putting_length : length text ≡ length text₀
    putting_length = wrote_length text₀ text at end p.put p.wrote

    pub putting_room : k < hi → at + length (texts f lo (hi - lo)) ≤ length text₀ → end + length (f k) ≤ length text
    putting_room h room =
        let a : length (texts f lo (hi - lo)) ≡ length p.put + length (f k ++ texts f (k + 1) (hi - (k + 1))) =
        ap length (p.rest ∙ ap (λ (l : List ℕ). p.put ++ l) (texts_step f k hi h)) ∙ length-append p.put (f k ++ texts f (k + 1) (hi - (k + 1))) in
        let b = length-append (f k) (texts f (k + 1) (hi - (k + 1))) in
        let e = p.wrote.ends in
        let l = putting_length in
        omega arith

    pub putting_again : (text₁ : List ℕ) (end₁ : ℕ) → k < hi → Wrote text end (f k) end₁ text₁ → Putting f lo hi text₀ at text₁ end₁ (k + 1)
    putting_again text₁ end₁ h w = let l = p.from in record {
      from = omega arith;
      up_to = omega arith;
      put = p.put ++ f k;
      wrote = behind p.wrote w;
      rest =
          p.rest ∙ ap (λ (l : List ℕ). p.put ++ l) (texts_step f k hi h)
          ∙ sym (append_assoc p.put (f k) (texts f (k + 1) (hi - (k + 1))));
    }

    pub putting_end : hi ≤ k → Wrote text₀ at (texts f lo (hi - lo)) end text
    unfolding texts
    putting_end h =
        let e : hi - k ≡ 0 = omega arith in
        rw (p.rest ∙ ap (λ (n : ℕ). p.put ++ texts f k n) e ∙ append-nil p.put) p.wrote

-- ---- how long texts are
-- the sum of g i, g (i + 1), .., n of them
unfoldable pub sums : (ℕ → ℕ) → ℕ → ℕ → ℕ
sums g i zero = 0
sums g i (suc n) = g i + sums g (suc i) n

-- texts that have each at most so many bytes
pub texts_most : (f : ℕ → List ℕ) (g : ℕ → ℕ) (end : ℕ) → ((k : ℕ) → k < end → length (f k) ≤ g k)
    → (i n : ℕ) → i + n ≤ end → length (texts f i n) ≤ sums g i n
unfolding texts sums
texts_most f g end h i zero l = omega arith
texts_most f g end h i (suc n) l =
    let e = length-append (f i) (texts f (suc i) n) in
    let a = h i (omega arith) in
    let b = texts_most f g end h (suc i) n (omega arith) in
    omega arith

-- and texts that have each just so many
pub texts_exact : (f : ℕ → List ℕ) (g : ℕ → ℕ) (end : ℕ) → ((k : ℕ) → k < end → length (f k) ≡ g k)
    → (i n : ℕ) → i + n ≤ end → length (texts f i n) ≡ sums g i n
unfolding texts sums
texts_exact f g end h i zero l = refl
texts_exact f g end h i (suc n) l =
    let e = length-append (f i) (texts f (suc i) n) in
    let a = h i (omega arith) in
    let b = texts_exact f g end h (suc i) n (omega arith) in
    omega arith

pub sums_same : (c i n : ℕ) → sums (λ (_ : ℕ). c) i n ≡ n * c
unfolding sums
sums_same c i zero = omega arith
sums_same c i (suc n) = let e = sums_same c (suc i) n in let d : suc n * c ≡ c + n * c = omega arith in omega arith

pub sums_longer : (g : ℕ → ℕ) (i n more : ℕ) → sums g i n ≤ sums g i (n + more)
unfolding sums
sums_longer g i zero more = omega arith
sums_longer g i (suc n) more =
    let e : suc n + more ≡ suc (n + more) = omega arith in
    rw e (omega (arith, sums_longer g (suc i) n more))
