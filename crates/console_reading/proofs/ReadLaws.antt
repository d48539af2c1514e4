-- Reading: the results a function can give, the checks by kind of response, and the ends of the call.
-- Assumes nothing.
use mathlib.Core.Path.{◌≡◌, refl, sym, ap, ◌∙◌, subst}
use mathlib.Core.Bool.{Bool, true, false, cond, not}
use mathlib.Core.List.{List, [], ◌∷◌, ◌++◌}
use Prim.Native.Nat.{ℕ, zero, suc, ◌+◌, ◌-◌, ◌*◌, ◌/◌, ◌%◌, ◌^◌, ◌≤◌, ◌<◌}
use native.Mathlib.Nat.{add-zero}
use native.Mathlib.Decide.{ℕ_discrete}
use native.Mathlib.Omega.{arith}
use borrow.Author.Tests.{le-ltb, ltb-false, eq-eqb, ne_eqb}
use lib.Dec.{eqb, ltb}
use Rattle.std.specs.List.{list_any}
use lib.ListN.{length, get_or, set, drop, length-set}
use Rattle.wire.proofs.Loops.{Filled, fill_start, fill_again, fill_end}
use lib.Seq.{get_or-drop}
use lib.Bits.{bit_and, and_mask}
use Rattle.wire.specs.Bits.{num, bit, tab}
use Rattle.permit.specs.Permission.{P, place}
use Rattle.tables.specs.Outcome.{answer, out}
use Rattle.tables.specs.Refusals.{first_refusal, Clear}
use Rattle.tables.proofs.RefusalLaws.{clear, skipped, agrees_not}
use Rattle.tables.proofs.OutcomeLaws.{gives}
use Rattle.console_reading.specs.Reading.{among, possible, reports, start_of, count_of, rows_checks, short_checks, length_checks, head_checks, read_checks, unpacked, eight_from, heard, rows_then, read_out}

-- ---- one of these results, as the library's `contains` looks for it
pub contains_among : (r : ℕ) (xs : List ℕ) → list_any (λ y. eqb y r) xs ≡ among r xs
unfolding among
contains_among r [] = refl
contains_among r (x ∷ xs) = rw (turned x r, contains_among r xs)
  where
    turned : (a b : ℕ) → eqb a b ≡ eqb b a
    turned a b = go (ℕ_discrete a b)
      where
        go : Dec (a ≡ b) → eqb a b ≡ eqb b a
        go (yes e) = rw e
        go (no n) = rw (ne_eqb a b n, ne_eqb b a (λ e. n (sym e)))

module _ (f r : ℕ) (v : Bool) where
  pub possible_93 : f ≡ 0x93 → v ≡ among r (0x00 ∷ 0x02 ∷ 0x03 ∷ 0x10 ∷ []) → v ≡ possible f r
  unfolding possible
  possible_93 e h = rw (eq-eqb f 0x93 e) h

  pub possible_c1 : f ≡ 0xc1 → v ≡ among r (0x00 ∷ 0x01 ∷ 0x02 ∷ 0x03 ∷ 0x11 ∷ []) → v ≡ possible f r
  unfolding possible
  possible_c1 e h = let n : f ≡ 0x93 → ⊥ = λ z. omega arith in rw (ne_eqb f 0x93 n, eq-eqb f 0xc1 e) h

  pub possible_51 : f ≡ 0x51 → v ≡ among r (0x00 ∷ 0x01 ∷ 0x03 ∷ 0x11 ∷ []) → v ≡ possible f r
  unfolding possible
  possible_51 e h =
      let n : f ≡ 0x93 → ⊥ = λ z. omega arith in
      let m : f ≡ 0xc1 → ⊥ = λ z. omega arith in
      rw (ne_eqb f 0x93 n, ne_eqb f 0xc1 m, eq-eqb f 0x51 e) h

pub possible_none : (f r : ℕ) → (f ≡ 0x93 → ⊥) → (f ≡ 0xc1 → ⊥) → (f ≡ 0x51 → ⊥) → false ≡ possible f r
unfolding possible
possible_none f r a b c = rw (ne_eqb f 0x93 a, ne_eqb f 0xc1 b, ne_eqb f 0x51 c)

module _ (response : List ℕ) where
  pub reports_not : (get_or response 1 0 ≡ 0x51 → ⊥) → false ≡ reports response
  unfolding reports
  reports_not n = rw (ne_eqb (get_or response 1 0) 0x51 n)

  pub reports_51 : get_or response 1 0 ≡ 0x51 → eqb (get_or response 2 0) 0 ≡ reports response
  unfolding reports
  reports_51 e = rw (eq-eqb (get_or response 1 0) 0x51 e)

  -- the checks, by kind
  pub length-rows : (v : Bool) (r : ℕ) → v ≡ reports response → v ≡ true → r ≡ first_refusal (rows_checks response) → r ≡ first_refusal (length_checks response)
  unfolding length_checks
  length-rows v r e t h = rw (sym e ∙ t) h

  pub length_short : (v : Bool) (r : ℕ) → v ≡ reports response → v ≡ false → r ≡ first_refusal (short_checks response) → r ≡ first_refusal (length_checks response)
  unfolding length_checks
  length_short v r e t h = rw (sym e ∙ t) h

  pub then_length : (v : Bool) (r : ℕ) → 4 ≤ length response → get_or response 0 0 ≡ 0x41
      → v ≡ possible (get_or response 1 0) (get_or response 2 0) → not v ≡ false
      → r ≡ first_refusal (length_checks response) → r ≡ first_refusal (head_checks response)
  unfolding first_refusal
  then_length v r l e p t h = rw (le-ltb (length response) 4 l, eq-eqb (get_or response 0 0) 0x41 e, agrees_not p t) h

  pub then_head : (room r : ℕ) → 8064 ≤ room → r ≡ first_refusal (head_checks response) → r ≡ first_refusal (read_checks response room)
  then_head room r l h = h ∙ sym (skipped 21 _ (head_checks response) l)

-- ---- a group's bit of a reported row
pub bit_masked : (x k : ℕ) → bit_and (x / 2 ^ k) 1 ≡ bit x k
unfolding bit
bit_masked x k = and_mask (x / 2 ^ k) 1

half : (b : ℕ) → b < 2 → num (eqb b 1) ≡ b
half zero h = refl
half (suc zero) h = refl
half (suc (suc b)) h = absurd (omega arith)

-- the bits of one byte are the eight groups from k on
bit_at : (response : List ℕ) (k m : ℕ) → k % 8 ≡ 0 → m < 8 → bit (get_or response (12 + (16 * (k / 128) + (15 - k % 128 / 8))) 0) m ≡ unpacked response (k + m)
unfolding unpacked P place bit
bit_at response k m e h =
    let p : 16 * (k / 128) + (15 - k % 128 / 8) ≡ (k + m) / 128 * 16 + (16 - 1 - (k + m) % 128 / 8) = omega arith in
    let q : (k + m) % 128 % 8 ≡ m = omega arith in
    rw (p, q, ← get_or-drop 12 response ((k + m) / 128 * 16 + (16 - 1 - (k + m) % 128 / 8)) 0)
    (sym (half (get_or (drop 12 response) ((k + m) / 128 * 16 + (16 - 1 - (k + m) % 128 / 8)) 0 / 2 ^ m % 2) (omega arith)))

-- ---- the two ends of the call, where the checks answered Ok
head_passed : (response : List ℕ) → first_refusal (head_checks response) ≡ 0 → (4 ≤ length response) × (first_refusal (length_checks response) ≡ 0)
unfolding first_refusal
head_passed response e =
    go (ltb (length response) 4) (eqb (get_or response 0 0) 0x41) (possible (get_or response 1 0) (get_or response 2 0)) refl e
  where
    go : (a b c : Bool) → a ≡ ltb (length response) 4 → cond a 25 (cond (not b) 25 (cond (not c) 25 (first_refusal (length_checks response)))) ≡ 0
        → (4 ≤ length response) × (first_refusal (length_checks response) ≡ 0)
    go true b c ea h = absurd (omega arith)
    go false false c ea h = absurd (omega arith)
    go false true false ea h = absurd (omega arith)
    go false true true ea h = (ltb-false (length response) 4 (sym ea), h)

room_passed : (response : List ℕ) (room : ℕ) → first_refusal (read_checks response room) ≡ 0 → (8064 ≤ room) × (first_refusal (head_checks response) ≡ 0)
unfolding first_refusal
room_passed response room e = go (ltb room 8064) refl e
  where
    go : (a : Bool) → a ≡ ltb room 8064 → cond a 21 (first_refusal (head_checks response)) ≡ 0 → (8064 ≤ room) × (first_refusal (head_checks response) ≡ 0)
    go true ea h = absurd (omega arith)
    go false ea h = (ltb-false room 8064 (sym ea), h)

module _ (response : List ℕ) (room : ℕ) (e : 0 ≡ first_refusal (read_checks response room)) where
  pub read_room : 8064 ≤ room
  read_room = (room_passed response room (sym e)).0

  pub read_long : 4 ≤ length response
  read_long = (head_passed response (room_passed response room (sym e)).1).0

  pub read_rows : (v : Bool) → v ≡ reports response → v ≡ true → Clear (rows_checks response)
  unfolding length_checks
  read_rows v ev t =
      let h : first_refusal (cond (reports response) (rows_checks response) (short_checks response)) ≡ 0 = (head_passed response (room_passed response room (sym e)).1).1 in
      clear (rows_checks response) 0 (sym (rw (sym ev ∙ t) at h)) refl tt

module _ (response rows rows₁ : List ℕ) (e : 0 ≡ first_refusal (read_checks response (length rows))) (v : Bool) (ev : v ≡ reports response) (a : List ℕ) where
  pub read_report : v ≡ true → a ≡ (0x51 ∷ 0x00 ∷ start_of response ∷ count_of response ∷ []) → rows₁ ≡ tab (unpacked response) 0 (128 * count_of response) ++ drop (128 * count_of response) rows
      → out (answer a) (rows₁ ∷ []) ≡ read_out response rows
  unfolding heard rows_then
  read_report t ea er = gives _ _ _ _ _ _ e (rw (sym ev ∙ t) (ap answer ea)) (rw (sym ev ∙ t) (ap (λ (l : List ℕ). l ∷ []) er))

  pub read_result : v ≡ false → a ≡ (get_or response 1 0 ∷ get_or response 2 0 ∷ []) → out (answer a) (rows ∷ []) ≡ read_out response rows
  unfolding heard rows_then
  read_result t ea = gives _ _ _ _ _ _ e (rw (sym ev ∙ t) (ap answer ea)) (rw (sym ev ∙ t))

-- ---- the loop that unpacks, eight groups at a time
pub eight_stored : (s : List ℕ) (at x b0 b1 b2 b3 b4 b5 b6 b7 : ℕ) → b0 ≡ bit x 0 → b1 ≡ bit x 1 → b2 ≡ bit x 2 → b3 ≡ bit x 3 → b4 ≡ bit x 4 → b5 ≡ bit x 5
    → b6 ≡ bit x 6 → b7 ≡ bit x 7
    → set (set (set (set (set (set (set (set s at b0) (at + 1) b1) (at + 2) b2) (at + 3) b3) (at + 4) b4) (at + 5) b5) (at + 6) b6) (at + 7) b7 ≡ eight_from x s at
unfolding eight_from
eight_stored s at x b0 b1 b2 b3 b4 b5 b6 b7 e0 e1 e2 e3 e4 e5 e6 e7 = rw (e0, e1, e2, e3, e4, e5, e6, e7)

pub length-eight : (x : ℕ) (s : List ℕ) (at : ℕ) → length (eight_from x s at) ≡ length s
unfolding eight_from
length-eight x s at = simp length-set

pub record Eights (response rows₀ : List ℕ) (n : ℕ) (rows : List ℕ) (i : ℕ) : Type 0 where
  pub whole : i % 8 ≡ 0
  pub filled : Filled (unpacked response) n rows₀ rows i

pub eights_start : (response rows : List ℕ) (n : ℕ) → Eights response rows n rows 0
eights_start response rows n = record { whole = refl; filled = fill_start (unpacked response) n rows }

-- one byte more behind k + m of them
fill_next : (f : ℕ → ℕ) (n : ℕ) (s₀ s : List ℕ) (k m next x : ℕ) → next ≡ m + 1 → n ≤ length s₀ → k + m < n → x ≡ f (k + m) → Filled f n s₀ s (k + m)
    → Filled f n s₀ (set s (k + m) x) (k + next)
fill_next f n s₀ s k m next x e l h v r =
    let p : k + m + 1 ≡ k + next = omega arith in
    subst (λ (j : ℕ). Filled f n s₀ (set s (k + m) x) j) p (fill_again f n s₀ s (k + m) x l h v r)

module _ (response rows₀ rows : List ℕ) (count k : ℕ) (c : count ≤ 63) (l : 8064 ≤ length rows₀) (h : k < 128 * count)
    (r : Eights response rows₀ (128 * count) rows k) where
  abbrev X : ℕ
  X = get_or response (12 + (16 * (k / 128) + (15 - k % 128 / 8))) 0

  eights_filled : Filled (unpacked response) (128 * count) rows₀ (eight_from X rows k) (k + 8)
  unfolding eight_from
  eights_filled =
      let w = r.whole in
      let room : 128 * count ≤ length rows₀ = omega arith in
      let next : (m : ℕ) → m < 8 → k + m < 128 * count = λ m u. omega arith in
      let z : bit X 0 ≡ unpacked response k = bit_at response k 0 w (omega arith) ∙ ap (unpacked response) (add-zero k) in
      let f1 = fill_again (unpacked response) (128 * count) rows₀ rows k (bit X 0) room h z r.filled in
      let f2 = fill_next (unpacked response) (128 * count) rows₀ _ k 1 2 (bit X 1) refl room (next 1 (omega arith)) (bit_at response k 1 w (omega arith)) f1 in
      let f3 = fill_next (unpacked response) (128 * count) rows₀ _ k 2 3 (bit X 2) refl room (next 2 (omega arith)) (bit_at response k 2 w (omega arith)) f2 in
      let f4 = fill_next (unpacked response) (128 * count) rows₀ _ k 3 4 (bit X 3) refl room (next 3 (omega arith)) (bit_at response k 3 w (omega arith)) f3 in
      let f5 = fill_next (unpacked response) (128 * count) rows₀ _ k 4 5 (bit X 4) refl room (next 4 (omega arith)) (bit_at response k 4 w (omega arith)) f4 in
      let f6 = fill_next (unpacked response) (128 * count) rows₀ _ k 5 6 (bit X 5) refl room (next 5 (omega arith)) (bit_at response k 5 w (omega arith)) f5 in
      let f7 = fill_next (unpacked response) (128 * count) rows₀ _ k 6 7 (bit X 6) refl room (next 6 (omega arith)) (bit_at response k 6 w (omega arith)) f6 in
      fill_next (unpacked response) (128 * count) rows₀ _ k 7 8 (bit X 7) refl room (next 7 (omega arith)) (bit_at response k 7 w (omega arith)) f7

  pub eights_more : (rows₁ : List ℕ) → rows₁ ≡ eight_from X rows k → Eights response rows₀ (128 * count) rows₁ (k + 8)
  eights_more rows₁ e =
      let w = r.whole in
      record { whole = omega arith; filled = subst (λ (s : List ℕ). Filled (unpacked response) (128 * count) rows₀ s (k + 8)) (sym e) eights_filled }

-- as the code has it: byte q of the rows
pub eights_again : (response rows₀ rows : List ℕ) (count q : ℕ) → count ≤ 63 → 8064 ≤ length rows₀ → q < 16 * count → Eights response rows₀ (128 * count) rows (8 * q)
    → (rows₁ : List ℕ) → rows₁ ≡ eight_from (get_or response (12 + (16 * (q / 16) + (15 - q % 16))) 0) rows (8 * q) → Eights response rows₀ (128 * count) rows₁ (8 * (q + 1))
eights_again response rows₀ rows count q c l h r rows₁ e =
    let p : 12 + (16 * (q / 16) + (15 - q % 16)) ≡ 12 + (16 * (8 * q / 128) + (15 - 8 * q % 128 / 8)) = omega arith in
    let s : 8 * q + 8 ≡ 8 * (q + 1) = omega arith in
    subst (λ (i : ℕ). Eights response rows₀ (128 * count) rows₁ i) s
    (eights_more response rows₀ rows count (8 * q) c l (omega arith) r rows₁ (e ∙ ap (λ (i : ℕ). eight_from (get_or response i 0) rows (8 * q)) p))

pub eights_end : (response rows₀ : List ℕ) (n : ℕ) (rows : List ℕ) (i : ℕ) → n ≤ i → Eights response rows₀ n rows i
    → rows ≡ tab (unpacked response) 0 n ++ drop n rows₀
eights_end response rows₀ n rows i h r = fill_end (unpacked response) n rows₀ rows i h r.filled
