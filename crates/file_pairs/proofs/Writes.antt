-- The records of a table, put one behind the other, and how many bytes they are at most.
-- Assumes nothing.
use mathlib.Core.Path.{◌≡◌, refl, sym, ap, ◌∙◌}
use mathlib.Core.Bool.{Bool, true, false, cond, not}
use mathlib.Core.List.{List, [], ◌∷◌}
use Prim.Native.Nat.{ℕ, zero, suc, ◌+◌, ◌-◌, ◌*◌, ◌≤◌, ◌<◌}
use native.Mathlib.Numerals.{add-one}
use native.Mathlib.Omega.{arith}
use borrow.Author.Tests.{not-true, not-false}
use lib.ListN.{length, set}
use Rattle.permit.specs.Permission.{groups, P, reaches}
use Rattle.permit.proofs.ReachLaws.{reach_held}
use Rattle.lines.specs.Written.{written, Wrote}
use Rattle.lines.proofs.Putting.{wrote_nothing, Putting, putting_room, putting_end, sums, texts_most, sums_same}
use Rattle.file_pairs.specs.Pairs.{pair_record, row_records, pairs_of}

-- ---- a pair, as the code has it: p is whether a reaches b, and the table holds both
module _ (w : ℕ) (t : List ℕ) (a b : ℕ) (p : Bool) (e : p ≡ reaches w t a b) (ha : a < groups w) (hb : b < groups w) where
  held : p ≡ P w t a b
  held = reach_held w t a b p ha hb e

  pair_on : not p ≡ false → pair_record w t a b ≡ a ∷ b ∷ []
  unfolding pair_record
  pair_on h = rw (sym held ∙ not-false p h)

  pair_off : not p ≡ true → pair_record w t a b ≡ []
  unfolding pair_record
  pair_off h = rw (sym held ∙ not-true p h)

  pub pair_none : (file : List ℕ) (at : ℕ) → not p ≡ true → Wrote file at (pair_record w t a b) at file
  pair_none file at h = rw (pair_off h) (wrote_nothing file at)

  pub pair_two : not p ≡ false → length (pair_record w t a b) ≡ 2
  pair_two h = ap length (pair_on h)

  pub pair_put : (file : List ℕ) (at : ℕ) → not p ≡ false → Wrote file at (pair_record w t a b) (at + 2) (set (set file at a) (at + 1) b)
  unfolding written
  pair_put file at h = rw (pair_on h) (record { ends = refl; wrote = rw (add-one at) })

-- ---- a row's loop, and the table's
module _ (w : ℕ) (t : List ℕ) (a : ℕ) (file₀ : List ℕ) (at : ℕ) (file : List ℕ) (end b : ℕ) (p : Putting (pair_record w t a) a (groups w) file₀ at file end b) where
  pub row_room : b < groups w → at + length (row_records w t a) ≤ length file₀ → end + length (pair_record w t a b) ≤ length file
  unfolding row_records
  row_room h room = putting_room (pair_record w t a) a (groups w) file₀ at file end b p h room

  pub row_end : groups w ≤ b → Wrote file₀ at (row_records w t a) end file
  unfolding row_records
  row_end h = putting_end (pair_record w t a) a (groups w) file₀ at file end b p h

module _ (w : ℕ) (t file₀ file : List ℕ) (end a : ℕ) (p : Putting (row_records w t) 2 (groups w) file₀ 0 file end a) where
  pub pairs_room : a < groups w → length (pairs_of w t) ≤ length file₀ → end + length (row_records w t a) ≤ length file
  unfolding pairs_of
  pairs_room h room = putting_room (row_records w t) 2 (groups w) file₀ 0 file end a p h (omega arith)

  pub pairs_end : groups w ≤ a → Wrote file₀ 0 (pairs_of w t) end file
  unfolding pairs_of
  pairs_end h = putting_end (row_records w t) 2 (groups w) file₀ 0 file end a p h

-- ---- how many bytes they are: two for each pair of groups from 2 on, at most
pair_length : (w : ℕ) (t : List ℕ) (a b : ℕ) → length (pair_record w t a b) ≤ 2
unfolding pair_record
pair_length w t a b = go (P w t a b)
  where
    go : (p : Bool) → length (cond p (a ∷ b ∷ []) []) ≤ 2
    go true = omega arith
    go false = omega arith

row_length : (w : ℕ) (t : List ℕ) (a : ℕ) → a < groups w → length (row_records w t a) ≤ (groups w - a) * 2
unfolding row_records
row_length w t a h =
    let e = sums_same 2 a (groups w - a) in
    let b = texts_most (pair_record w t a) (λ (_ : ℕ). 2) (groups w) (λ k m. pair_length w t a k) a (groups w - a) (omega arith) in
    omega arith

-- 2 n, 2 (n - 1), .., 2
pub sums_falling : (end a n : ℕ) → a + n ≡ end → sums (λ (k : ℕ). (end - k) * 2) a n ≡ n * (n + 1)
unfolding sums
sums_falling end a zero e = refl
sums_falling end a (suc n) e =
    let r = sums_falling end (suc a) n (omega arith) in
    let l : (end - a) * 2 ≡ 2 * n + 2 = omega arith in
    let q : suc n * (suc n + 1) ≡ 2 * n + 2 + n * (n + 1) = omega arith in
    omega arith

pub pairs_length : (w : ℕ) (t : List ℕ) → 1 ≤ w → length (pairs_of w t) ≤ (groups w - 2) * (groups w - 2 + 1)
unfolding pairs_of
pairs_length w t h =
    let e = sums_falling (groups w) 2 (groups w - 2) (omega arith) in
    let b = texts_most (row_records w t) (λ (k : ℕ). (groups w - k) * 2) (groups w) (λ k m. row_length w t k m) 2 (groups w - 2) (omega arith) in
    omega arith
