-- Which pairs records list: those of a table ascend and list what it permits; and records that ascend are one by what they list.
-- Assumes nothing.
use mathlib.Core.Path.{◌≡◌, refl, sym, ap, ap₂, ◌∙◌}
use mathlib.Core.Bool.{Bool, true, false, cond, ◌||◌, true≢false}
use mathlib.Core.List.{List, [], ◌∷◌, ◌++◌}
use Prim.Native.Nat.{ℕ, zero, suc, ◌+◌, ◌-◌, ◌≤◌, ◌<◌}
use native.Mathlib.Decide.{ℕ_discrete, dec_lt}
use native.Mathlib.Omega.{arith}
use borrow.Author.Tests.{eq-eqb, ne_eqb}
use lib.Dec.{eqb}
use Rattle.wire.specs.Runs.{texts}
use Rattle.permit.specs.Permission.{groups, P, Width}
use Rattle.file_pairs.specs.Pairs.{code, pair_record, row_records, pairs_of}
use Rattle.file_pairs.proofs.Records.{Ascending}

-- the pair of number k has a record
unfoldable pub has : List ℕ → ℕ → Bool
has [] k = false
has (a ∷ []) k = false
has (a ∷ b ∷ rs) k = eqb (code a b) k || has rs k

-- ---- records that ascend
lower : (w low high : ℕ) (rs : List ℕ) → low ≤ high → Ascending w high rs → Ascending w low rs
lower w low high [] l h = tt
lower w low high (a ∷ []) l h = absurd h
lower w low high (a ∷ b ∷ rs) l h = let k = h.0 in ((k.0, k.1, k.2, omega arith), h.1)

has_below : (w low : ℕ) (rs : List ℕ) (k : ℕ) → Ascending w low rs → k < low → has rs k ≡ false
unfolding has
has_below w low [] k h l = refl
has_below w low (a ∷ []) k h l = refl
has_below w low (a ∷ b ∷ rs) k h l =
    let m = h.0.3 in
    rw (ne_eqb (code a b) k (λ e. omega arith)) (has_below w (suc (code a b)) rs k h.1 (omega arith))

has_first : (a b : ℕ) (rs : List ℕ) → has (a ∷ b ∷ rs) (code a b) ≡ true
unfolding has
has_first a b rs = rw (eq-eqb (code a b) (code a b) refl)

has_later : (a b : ℕ) (rs : List ℕ) (k : ℕ) → (code a b ≡ k → ⊥) → has (a ∷ b ∷ rs) k ≡ has rs k
unfolding has
has_later a b rs k h = rw (ne_eqb (code a b) k h)

-- two that list the same pairs are equal: else the lower of their heads is in one alone
module _ (w : ℕ) (wide : Width w) where
  pub listed_ext : (low : ℕ) (rs ss : List ℕ) → Ascending w low rs → Ascending w low ss
      → ((c d : ℕ) → 2 ≤ c → c ≤ d → d < groups w → has rs (code c d) ≡ has ss (code c d)) → rs ≡ ss
  unfolding has
  listed_ext low [] [] p q h = refl
  listed_ext low [] (c ∷ []) p q h = absurd q
  listed_ext low [] (c ∷ d ∷ ss) p q h = let k = q.0 in absurd (true≢false (sym (h c d k.0 k.1 k.2 ∙ has_first c d ss)))
  listed_ext low (a ∷ []) ss p q h = absurd p
  listed_ext low (a ∷ b ∷ rs) [] p q h = let k = p.0 in absurd (true≢false (sym (has_first a b rs) ∙ h a b k.0 k.1 k.2))
  listed_ext low (a ∷ b ∷ rs) (c ∷ []) p q h = absurd q
  listed_ext low (a ∷ b ∷ rs) (c ∷ d ∷ ss) p q h = go (dec_lt (code a b) (code c d)) (dec_lt (code c d) (code a b)) (listed_ext (suc (code a b)) rs ss p.1)
    where
      Rest : Type 0
      Rest = Ascending w (suc (code a b)) ss → ((e f : ℕ) → 2 ≤ e → e ≤ f → f < groups w → has rs (code e f) ≡ has ss (code e f)) → rs ≡ ss

      go : Dec (code a b < code c d) → Dec (code c d < code a b) → Rest → a ∷ b ∷ rs ≡ c ∷ d ∷ ss
      go (yes l) x r =
          let k = p.0 in
          let m = q.0 in
          absurd (true≢false (sym (has_first a b rs) ∙ h a b k.0 k.1 k.2 ∙ has_below w (code c d) (c ∷ d ∷ ss) (code a b) ((m.0, m.1, m.2, omega arith), q.1) l))
      go (no n) (yes l) r =
          let k = p.0 in
          let m = q.0 in
          absurd (true≢false (sym (has_first c d ss) ∙ sym (h c d m.0 m.1 m.2) ∙ has_below w (code a b) (a ∷ b ∷ rs) (code c d) ((k.0, k.1, k.2, omega arith), p.1) l))
      go (no n) (no m) r =
          let g = wide.most in
          let k = p.0.2 in
          let l = q.0.2 in
          let x : a ≡ c = omega arith in
          let y : b ≡ d = omega arith in
          let up : Ascending w (suc (code a b)) ss = lower w (suc (code a b)) (suc (code c d)) ss (omega arith) q.1 in
          ap₂ (λ (i j : ℕ). i ∷ j ∷ rs) x y ∙ ap (λ (l : List ℕ). c ∷ d ∷ l) (r up (λ e f i j u. same e f i j u (ℕ_discrete (code a b) (code e f)) up))
        where
          same : (e f : ℕ) → 2 ≤ e → e ≤ f → f < groups w → Dec (code a b ≡ code e f) → Ascending w (suc (code a b)) ss → has rs (code e f) ≡ has ss (code e f)
          same e f i j u (yes z) up =
              has_below w (suc (code a b)) rs (code e f) p.1 (omega arith) ∙ sym (has_below w (suc (code a b)) ss (code e f) up (omega arith))
          same e f i j u (no z) up =
              sym (has_later a b rs (code e f) z) ∙ h e f i j u ∙ has_later c d ss (code e f) (λ y. z (omega arith))

-- ---- the records of a table
module _ (w : ℕ) (wide : Width w) (t : List ℕ) where
  row_ascends : (a b n : ℕ) (rest : List ℕ) → 2 ≤ a → a ≤ b → b + n ≤ groups w → Ascending w (code a (b + n)) rest
      → Ascending w (code a b) (texts (pair_record w t a) b n ++ rest)
  unfolding texts pair_record
  row_ascends a b zero rest h l u r = lower w (code a b) (code a (b + 0)) rest (omega arith) r
  row_ascends a b (suc n) rest h l u r =
      go (P w t a b)
      (row_ascends a (suc b) n rest h (omega arith) (omega arith) (lower w (code a (suc b + n)) (code a (b + suc n)) rest (omega arith) r))
    where
      go : (p : Bool) → Ascending w (code a (suc b)) (texts (pair_record w t a) (suc b) n ++ rest)
          → Ascending w (code a b) (cond p (a ∷ b ∷ []) [] ++ texts (pair_record w t a) (suc b) n ++ rest)
      go true k =
          ((h, l, omega arith, omega arith), lower w (suc (code a b)) (code a (suc b)) (texts (pair_record w t a) (suc b) n ++ rest) (omega arith) k)
      go false k = lower w (code a b) (code a (suc b)) (texts (pair_record w t a) (suc b) n ++ rest) (omega arith) k

  -- a row's records end before the next row's begin
  behind_row : (a : ℕ) (rest : List ℕ) → a < groups w → Ascending w (code (suc a) 0) rest → Ascending w (code a (a + (groups w - a))) rest
  behind_row a rest l r = let g = wide.most in lower w (code a (a + (groups w - a))) (code (suc a) 0) rest (omega arith) r

  rows_ascend : (a n : ℕ) → 2 ≤ a → a + n ≤ groups w → Ascending w (code a 0) (texts (row_records w t) a n)
  unfolding texts row_records
  rows_ascend a zero h u = tt
  rows_ascend a (suc n) h u =
      let rest : List ℕ = texts (row_records w t) (suc a) n in
      lower w (code a 0) (code a a) (texts (pair_record w t a) a (groups w - a) ++ rest) (omega arith)
      (row_ascends a a (groups w - a) rest h (omega arith) (omega arith) (behind_row a rest (omega arith) (rows_ascend (suc a) n (omega arith) (omega arith))))

  pub pairs_ascend : Ascending w 0 (pairs_of w t)
  unfolding pairs_of
  pairs_ascend =
      let s = wide.some in
      lower w 0 (code 2 0) (texts (row_records w t) 2 (groups w - 2)) (omega arith) (rows_ascend 2 (groups w - 2) (omega arith) (omega arith))

  -- ---- and what they list
  row_past : (a b n : ℕ) (rest : List ℕ) (k : ℕ) → code a (b + n) ≤ k → has (texts (pair_record w t a) b n ++ rest) k ≡ has rest k
  unfolding texts pair_record
  row_past a b zero rest k l = refl
  row_past a b (suc n) rest k l = go (P w t a b) (row_past a (suc b) n rest k (omega arith))
    where
      go : (p : Bool) → has (texts (pair_record w t a) (suc b) n ++ rest) k ≡ has rest k
          → has (cond p (a ∷ b ∷ []) [] ++ texts (pair_record w t a) (suc b) n ++ rest) k ≡ has rest k
      go true e = has_later a b (texts (pair_record w t a) (suc b) n ++ rest) k (λ q. omega arith) ∙ e
      go false e = e

  row_in : (a b n : ℕ) (rest : List ℕ) (d : ℕ) → 2 ≤ a → a ≤ b → b + n ≤ groups w → Ascending w (code a (b + n)) rest → b ≤ d → d < b + n
      → has (texts (pair_record w t a) b n ++ rest) (code a d) ≡ P w t a d
  unfolding texts pair_record
  row_in a b zero rest d h l u r p q = absurd (omega arith)
  row_in a b (suc n) rest d h l u r p q =
      let r₁ : Ascending w (code a (suc b + n)) rest = lower w (code a (suc b + n)) (code a (b + suc n)) rest (omega arith) r in
      go (P w t a b) refl (ℕ_discrete b d) (row_ascends a (suc b) n rest h (omega arith) (omega arith) r₁)
      (λ i. row_in a (suc b) n rest d h (omega arith) (omega arith) r₁ i (omega arith))
    where
      go : (v : Bool) → P w t a b ≡ v → Dec (b ≡ d) → Ascending w (code a (suc b)) (texts (pair_record w t a) (suc b) n ++ rest)
          → (suc b ≤ d → has (texts (pair_record w t a) (suc b) n ++ rest) (code a d) ≡ P w t a d)
          → has (cond v (a ∷ b ∷ []) [] ++ texts (pair_record w t a) (suc b) n ++ rest) (code a d) ≡ P w t a d
      go true e (yes z) k later =
          ap (λ (j : ℕ). has (a ∷ b ∷ texts (pair_record w t a) (suc b) n ++ rest) (code a j)) (sym z)
          ∙ has_first a b (texts (pair_record w t a) (suc b) n ++ rest) ∙ sym e ∙ ap (P w t a) z
      go true e (no z) k later = has_later a b (texts (pair_record w t a) (suc b) n ++ rest) (code a d) (λ y. z (omega arith)) ∙ later (omega arith)
      go false e (yes z) k later =
          has_below w (code a (suc b)) (texts (pair_record w t a) (suc b) n ++ rest) (code a d) k (omega arith) ∙ sym e ∙ ap (P w t a) z
      go false e (no z) k later = later (omega arith)

  rows_in : (a n c d : ℕ) → 2 ≤ a → a + n ≤ groups w → a ≤ c → c < a + n → c ≤ d → d < groups w → has (texts (row_records w t) a n) (code c d) ≡ P w t c d
  unfolding texts row_records
  rows_in a zero c d h u p q l m = absurd (omega arith)
  rows_in a (suc n) c d h u p q l m = go (ℕ_discrete a c) (λ i. rows_in (suc a) n c d (omega arith) (omega arith) i (omega arith) l m)
    where
      rest : List ℕ
      rest = texts (row_records w t) (suc a) n

      go : Dec (a ≡ c) → (suc a ≤ c → has rest (code c d) ≡ P w t c d) → has (texts (pair_record w t a) a (groups w - a) ++ rest) (code c d) ≡ P w t c d
      go (yes z) later =
          ap (λ (i : ℕ). has (texts (pair_record w t a) a (groups w - a) ++ rest) (code i d)) (sym z)
          ∙ row_in a a (groups w - a) rest d h (omega arith) (omega arith) (behind_row a rest (omega arith) (rows_ascend (suc a) n (omega arith) (omega arith))) (omega arith) (omega arith)
          ∙ ap (λ (i : ℕ). P w t i d) z
      go (no z) later =
          let g = wide.most in
          row_past a a (groups w - a) rest (code c d) (omega arith) ∙ later (omega arith)

  pub pairs_list : (c d : ℕ) → 2 ≤ c → c ≤ d → d < groups w → has (pairs_of w t) (code c d) ≡ P w t c d
  unfolding pairs_of
  pairs_list c d h l u = rows_in 2 (groups w - 2) c d (omega arith) (omega arith) h (omega arith) l u
