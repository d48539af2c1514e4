-- Route tables: a walk up the records passes by one whose byte 9 is no group, so the table gives what it gives without that record.
-- Assumes nothing.
use mathlib.Core.Path.{◌≡◌, sym, ap, subst, ◌∙◌}
use mathlib.Core.List.{List, ◌++◌}
use Prim.Native.Nat.{ℕ, zero, suc, ◌+◌, ◌-◌, ◌*◌, ◌%◌, ◌≤◌, ◌<◌}
use native.Mathlib.Nat.{zero-add}
use native.Mathlib.Omega.{arith}
use lib.ListN.{length, get_or, length-append, get_or-append}
use lib.Seq.{get_or-append-add}
use Rattle.tables.specs.Routes.{route_record, route_count, route_byte}

-- record i of r and record j of s have the same bytes
abbrev pub SameRecord : List ℕ → ℕ → List ℕ → ℕ → Type 0
SameRecord r i s j = (k : ℕ) → k < route_record → route_byte r i k ≡ route_byte s j k

-- what makes `walk r i n` a walk over the n records of r from i on, with `one r i` what record i does to the answer of those above it:
-- the record's own bytes say what it does, and one of no group does nothing
pub record Walk (A : Type 0) (walk : List ℕ → ℕ → ℕ → A) (one : List ℕ → ℕ → A → A) : Type 0 where
  pub ends : (r : List ℕ) (i : ℕ) (s : List ℕ) (j : ℕ) → walk r i 0 ≡ walk s j 0
  pub steps : (r : List ℕ) (i n : ℕ) → walk r i (suc n) ≡ one r i (walk r (suc i) n)
  pub reads : (r : List ℕ) (i : ℕ) (s : List ℕ) (j : ℕ) → SameRecord r i s j → (x : A) → one r i x ≡ one s j x
  pub passes : (r : List ℕ) (i : ℕ) → 127 < route_byte r i 9 → (x : A) → one r i x ≡ x

-- bytes of a table with the record `skipped` in it, against those of the table without it
module _ (before skipped behind : List ℕ) (c : length skipped ≡ route_record) where
  bytes_below : (p : ℕ) → p < length before → get_or (before ++ skipped ++ behind) p 0 ≡ get_or (before ++ behind) p 0
  bytes_below p h =
      let l = length-append before skipped in
      get_or-append (before ++ skipped) behind 0 p (omega arith)
      ∙ get_or-append before skipped 0 p h
      ∙ sym (get_or-append before behind 0 p h)

  bytes_there : (k : ℕ) → k < route_record → get_or (before ++ skipped ++ behind) (length before + k) 0 ≡ get_or skipped k 0
  bytes_there k h =
      let l = length-append before skipped in
      get_or-append (before ++ skipped) behind 0 (length before + k) (omega arith) ∙ get_or-append-add before skipped k 0

  bytes_above : (p : ℕ) → length before ≤ p → get_or (before ++ skipped ++ behind) (p + route_record) 0 ≡ get_or (before ++ behind) p 0
  bytes_above p h =
      let l = length-append before skipped in
      let e : p + route_record ≡ length (before ++ skipped) + (p - length before) = omega arith in
      let q : length before + (p - length before) ≡ p = omega arith in
      ap (λ (m : ℕ). get_or (before ++ skipped ++ behind) m 0) e
      ∙ get_or-append-add (before ++ skipped) behind (p - length before) 0
      ∙ sym (get_or-append-add before behind (p - length before) 0)
      ∙ ap (λ (m : ℕ). get_or (before ++ behind) m 0) q

-- r is s with a record of no group in it, record b
record Skips (r s : List ℕ) (b : ℕ) : Type 0 where
  below : (i : ℕ) → i < b → SameRecord r i s i
  there : 127 < route_byte r b 9
  above : (i : ℕ) → b ≤ i → SameRecord r (suc i) s i

module _ (before skipped behind : List ℕ) (a : length before % route_record ≡ 0) (c : length skipped ≡ route_record) where
  skips : 127 < get_or skipped 9 0 → Skips (before ++ skipped ++ behind) (before ++ behind) (route_count before)
  skips h = record {
    below = λ i l k u. bytes_below before skipped behind c (route_record * i + k) (omega arith);
    there =
        let e : route_record * route_count before + 9 ≡ length before + 9 = omega arith in
        rw (e, bytes_there before skipped behind c 9 (omega arith)) h;
    above = λ i l k u.
        let e : route_record * suc i + k ≡ route_record * i + k + route_record = omega arith in
        rw e (bytes_above before skipped behind c (route_record * i + k) (omega arith));
  }

  count_with : route_count (before ++ skipped ++ behind) ≡ route_count before + suc (route_count behind)
  count_with = omega (arith, length-append (before ++ skipped) behind, length-append before skipped)

  count_without : route_count (before ++ behind) ≡ route_count before + route_count behind
  count_without = omega (arith, length-append before behind)

module _ {A : Type 0} {walk : List ℕ → ℕ → ℕ → A} {one : List ℕ → ℕ → A → A} (w : Walk A walk one) where
  module _ (r s : List ℕ) (b : ℕ) (t : Skips r s b) where
    -- the records of s from i on are those of r from one further on
    walk_above : (i n : ℕ) → b ≤ i → walk r (suc i) n ≡ walk s i n
    walk_above i zero h = w.ends r (suc i) s i
    walk_above i (suc n) h =
        w.steps r (suc i) n
        ∙ w.reads r (suc i) s i (t.above i h) (walk r (suc (suc i)) n)
        ∙ ap (one s i) (walk_above (suc i) n (omega arith))
        ∙ sym (w.steps s i n)

    -- m records that both have, then the one that only r has, then n that both have
    walk_past : (i m n : ℕ) → i + m ≡ b → walk r i (m + suc n) ≡ walk s i (m + n)
    walk_past i zero n e =
        let q : b ≡ i = omega arith in
        rw (zero-add (suc n), zero-add n)
        (w.steps r i n
        ∙ w.passes r i (subst (λ (m : ℕ). 127 < route_byte r m 9) q t.there) (walk r (suc i) n)
        ∙ walk_above i n (omega arith))
    walk_past i (suc m) n e =
        let p : suc m + suc n ≡ suc (m + suc n) = omega arith in
        let q : suc m + n ≡ suc (m + n) = omega arith in
        rw (p, q)
        (w.steps r i (m + suc n)
        ∙ w.reads r i s i (t.below i (omega arith)) (walk r (suc i) (m + suc n))
        ∙ ap (one s i) (walk_past (suc i) m n (omega arith))
        ∙ sym (w.steps s i (m + n)))

  pub walk_skips : (before skipped behind : List ℕ) → length before % route_record ≡ 0 → length skipped ≡ route_record → 127 < get_or skipped 9 0
      → walk (before ++ skipped ++ behind) 0 (route_count (before ++ skipped ++ behind)) ≡ walk (before ++ behind) 0 (route_count (before ++ behind))
  walk_skips before skipped behind a c h =
      rw (count_with before skipped behind a c, count_without before skipped behind a c)
      (walk_past (before ++ skipped ++ behind) (before ++ behind) (route_count before) (skips before skipped behind a c h) 0 (route_count before) (route_count behind) (omega arith))
