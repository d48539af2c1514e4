-- Loops that walk a list: one step in the code's numbers, and the invariant of every loop that fills a buffer.
-- Assumes nothing.
use mathlib.Core.Path.{◌≡◌, refl, sym, ap, ◌∙◌}
use mathlib.Core.List.{List, [], ◌∷◌, ◌++◌}
use Prim.Native.Nat.{ℕ, zero, suc, ◌+◌, ◌-◌, ◌≤◌, ◌<◌}
use native.Mathlib.Nat.{add-zero, zero-add, not-suc-le-zero, le_of_suc-le-suc}
use native.Mathlib.Numerals.{add-one}
use native.Mathlib.Omega.{arith}
use lib.ListN.{length, drop, get_or, set, length-set}
use lib.Seq.{drop-cons, set_at, append_snoc}
use Rattle.wire.specs.Bits.{tab}

-- what is left of m after k, by one more
pub left : (m k : ℕ) → k < m → m - k ≡ suc (m - (k + 1))
left m k h = omega arith

pub next : (i k : ℕ) → i + (k + 1) ≡ suc (i + k)
next i k = omega arith

-- ---- a list made by a function of the place
pub length-tab : (f : ℕ → ℕ) (i n : ℕ) → length (tab f i n) ≡ n
unfolding tab
length-tab f i zero = refl
length-tab f i (suc n) = ap suc (length-tab f (suc i) n)

pub get_or-tab : (f : ℕ → ℕ) (i n k : ℕ) → k < n → get_or (tab f i n) k 0 ≡ f (i + k)
unfolding tab
get_or-tab f i zero k h = absurd (not-suc-le-zero h)
get_or-tab f i (suc n) zero h = ap f (sym (add-zero i))
get_or-tab f i (suc n) (suc k) h = get_or-tab f (suc i) n k (le_of_suc-le-suc h) ∙ ap f (omega arith)

tab_snoc : (f : ℕ → ℕ) (i n : ℕ) → tab f i (suc n) ≡ tab f i n ++ (f (i + n) ∷ [])
unfolding tab
tab_snoc f i zero = ap (λ (m : ℕ). f m ∷ []) (sym (add-zero i))
tab_snoc f i (suc n) =
    let e : suc i + n ≡ i + suc n = omega arith in
    ap (λ (l : List ℕ). f i ∷ l) (tab_snoc f (suc i) n ∙ ap (λ (m : ℕ). tab f (suc i) n ++ (f m ∷ [])) e)

fill_more : (f : ℕ → ℕ) (s s₀ : List ℕ) (k x : ℕ) → k < length s₀ → s ≡ tab f 0 k ++ drop k s₀ → x ≡ f k
    → set s k x ≡ tab f 0 (k + 1) ++ drop (k + 1) s₀
fill_more f s s₀ k x h e ex =
    ap (λ (l : List ℕ). set l k x) (e ∙ ap (λ (l : List ℕ). tab f 0 k ++ l) (drop-cons s₀ k 0 h))
    ∙ set_at (tab f 0 k) (get_or s₀ k 0) (drop (suc k) s₀) x k (length-tab f 0 k)
    ∙ sym (append_snoc (tab f 0 k) x (drop (suc k) s₀))
    ∙ rw (add-one k, tab_snoc f 0 k, zero-add k, ex)

-- the invariant of every loop that fills the first n bytes of a buffer: the first k are filled, the others as they were
pub record Filled (f : ℕ → ℕ) (n : ℕ) (s₀ s : List ℕ) (k : ℕ) : Type 0 where
  pub within : k ≤ n
  pub same : length s ≡ length s₀
  pub filled : s ≡ tab f 0 k ++ drop k s₀

pub fill_start : (f : ℕ → ℕ) (n : ℕ) (s : List ℕ) → Filled f n s s 0
unfolding tab
fill_start f n s = record { within = omega arith; same = refl; filled = refl }

pub fill_again : (f : ℕ → ℕ) (n : ℕ) (s₀ s : List ℕ) (k x : ℕ) → n ≤ length s₀ → k < n → x ≡ f k → Filled f n s₀ s k → Filled f n s₀ (set s k x) (k + 1)
fill_again f n s₀ s k x l h e r = record {
  within = omega arith;
  same = length-set s k x ∙ r.same;
  filled = fill_more f s s₀ k x (omega arith) r.filled e;
}

-- a byte that is what it should be need not be filled; nor need all that are left
fill_skip : (f : ℕ → ℕ) (n : ℕ) (s₀ s : List ℕ) (k : ℕ) → n ≤ length s₀ → k < n → get_or s₀ k 0 ≡ f k → Filled f n s₀ s k → Filled f n s₀ s (k + 1)
fill_skip f n s₀ s k l h e r = record {
  within = omega arith;
  same = r.same;
  filled =
      r.filled
      ∙ ap (λ (t : List ℕ). tab f 0 k ++ t) (drop-cons s₀ k 0 (omega arith))
      ∙ sym (append_snoc (tab f 0 k) (get_or s₀ k 0) (drop (suc k) s₀))
      ∙ rw (add-one k, tab_snoc f 0 k, zero-add k, e);
}

pub fill_rest : (f : ℕ → ℕ) (n : ℕ) (s₀ s : List ℕ) (k m : ℕ) → n ≤ length s₀ → k + m ≡ n → ((j : ℕ) → k ≤ j → j < n → get_or s₀ j 0 ≡ f j) → Filled f n s₀ s k
    → Filled f n s₀ s n
fill_rest f n s₀ s k zero l e h r = let z : k ≡ n = omega arith in rw z at r
fill_rest f n s₀ s k (suc m) l e h r =
    fill_rest f n s₀ s (k + 1) m l (omega arith) (λ j a b. h j (omega arith) b) (fill_skip f n s₀ s k l (omega arith) (h k (omega arith) (omega arith)) r)

pub fill_end : (f : ℕ → ℕ) (n : ℕ) (s₀ s : List ℕ) (k : ℕ) → n ≤ k → Filled f n s₀ s k → s ≡ tab f 0 n ++ drop n s₀
fill_end f n s₀ s k h r =
    let l = r.within in
    let e : k ≡ n = omega arith in
    r.filled ∙ ap (λ (m : ℕ). tab f 0 m ++ drop m s₀) e
