-- The orders that a table's sheet lists: their lines are the sheet, and they make that table of the one at start-up.
-- Assumes nothing.
use mathlib.Core.Path.{◌≡◌, refl, sym, ap, ◌∙◌}
use mathlib.Core.Bool.{Bool, true, false, cond, ◌&&◌, ◌||◌, true≢false}
use mathlib.Core.List.{List, [], ◌∷◌, ◌++◌, append_assoc}
use mathlib.Core.Logic.{◌⊎◌, inl, inr}
use Prim.Native.Nat.{ℕ, zero, suc, ◌+◌, ◌-◌, ◌/◌, ◌%◌, ◌≤◌, ◌<◌}
use native.Mathlib.Decide.{dec_lt, ℕ_discrete}
use native.Mathlib.Omega.{arith}
use borrow.Author.Tests.{eqb-true, eq-eqb}
use lib.Dec.{eqb}
use lib.ListN.{length, get_or, get_or-eq_default}
use Rattle.permit.specs.Permission.{groups, table_size, P, start_byte, start_table}
use Rattle.permit.specs.Orders.{Order, order, apply}
use Rattle.permit.specs.History.{names, Zone, Valid, latest, Silent, Says}
use Rattle.permit.proofs.Laws.{Bytes, Mutual, length-start, get_or-start, table_ext}
use Rattle.permit.proofs.HistoryLaws.{latest_none, latest_swap, length-apply, bytes_apply, low_kept, history}
use Rattle.sheet_lines.specs.Line.{CR, LF, line_text}
use Rattle.sheet_lines.proofs.LineLaws.{both_true}
use Rattle.wire.specs.Runs.{texts}
use Rattle.exports.specs.Export.{pair_text, row_text, sheet_text}

-- ---- the lines of orders that switch on
-- one line behind the other
unfoldable pub text_of : List Order → List ℕ
text_of [] = []
text_of (order a b v ∷ os) = line_text a b true (CR ∷ LF ∷ []) ++ text_of os

-- two lists of orders one behind the other have their lines so
text_append : (xs ys : List Order) → text_of (xs ++ ys) ≡ text_of xs ++ text_of ys
unfolding text_of
text_append [] ys = refl
text_append (order a b v ∷ xs) ys =
    ap (λ (l : List ℕ). line_text a b true (CR ∷ LF ∷ []) ++ l) (text_append xs ys)
    ∙ sym (append_assoc (line_text a b true (CR ∷ LF ∷ [])) (text_of xs) (text_of ys))

-- ---- an order for c and d is among these
-- c and d as they stand, not swapped
abbrev Has : List Order → ℕ → ℕ → Type 0
Has [] c d = ⊥
Has (order a b v ∷ os) c d = ((a ≡ c) × (b ≡ d)) ⊎ Has os c d

-- what is in the first of two lists is in both together
has_left : (xs ys : List Order) (c d : ℕ) → Has xs c d → Has (xs ++ ys) c d
has_left [] ys c d h = absurd h
has_left (order a b v ∷ xs) ys c d (inl h) = inl h
has_left (order a b v ∷ xs) ys c d (inr h) = inr (has_left xs ys c d h)

-- and so is what is in the second
has_right : (xs ys : List Order) (c d : ℕ) → Has ys c d → Has (xs ++ ys) c d
has_right [] ys c d h = h
has_right (order a b v ∷ xs) ys c d h = inr (has_right xs ys c d h)

-- ---- what an order names
-- of two things one is so
either_true : (x y : Bool) → (x || y) ≡ true → (x ≡ true) ⊎ (y ≡ true)
either_true true y e = inl refl
either_true false y e = inr e

-- c and d are a and b, in either order
names_true : (a b c d : ℕ) → names a b c d ≡ true → ((c ≡ a) × (d ≡ b)) ⊎ ((c ≡ b) × (d ≡ a))
unfolding names
names_true a b c d e = go (either_true (eqb c a && eqb d b) (eqb c b && eqb d a) e)
  where
    go : ((eqb c a && eqb d b) ≡ true) ⊎ ((eqb c b && eqb d a) ≡ true) → ((c ≡ a) × (d ≡ b)) ⊎ ((c ≡ b) × (d ≡ a))
    go (inl h) = let p = both_true (eqb c a) (eqb d b) h in inl (eqb-true c a p.0, eqb-true d b p.1)
    go (inr h) = let p = both_true (eqb c b) (eqb d a) h in inr (eqb-true c b p.0, eqb-true d a p.1)

-- a and b name themselves
names_self : (a b : ℕ) → names a b a b ≡ true
unfolding names
names_self a b = rw (eq-eqb a a refl, eq-eqb b b refl)

module _ (w : ℕ) (t : List ℕ) where
  -- ---- the orders that the sheet of t lists
  -- of a pair
  pair_on : ℕ → ℕ → List Order
  pair_on a b = cond (P w t a b) (order a b true ∷ []) []

  -- of n pairs of row a, from b on
  row_on : ℕ → ℕ → ℕ → List Order
  row_on a b zero = []
  row_on a b (suc n) = pair_on a b ++ row_on a (suc b) n

  -- of n rows, from a on
  pub rows_on : ℕ → ℕ → List Order
  rows_on a zero = []
  rows_on a (suc n) = row_on a a (groups w - a) ++ rows_on (suc a) n

  -- of the whole sheet
  abbrev pub sheet_on : List Order
  sheet_on = rows_on 2 (groups w - 2)

  -- ---- their lines are the sheet
  -- of a row
  text_row : (a b n : ℕ) → texts (pair_text w t a) b n ≡ text_of (row_on a b n)
  unfolding texts pair_text text_of row_on pair_on
  text_row a b zero = refl
  text_row a b (suc n) = go (P w t a b) (text_row a (suc b) n)
    where
      go : (p : Bool) → texts (pair_text w t a) (suc b) n ≡ text_of (row_on a (suc b) n)
          → cond p (line_text a b true (CR ∷ LF ∷ [])) [] ++ texts (pair_text w t a) (suc b) n
          ≡ text_of (cond p (order a b true ∷ []) [] ++ row_on a (suc b) n)
      go true e = ap (λ (l : List ℕ). line_text a b true (CR ∷ LF ∷ []) ++ l) e
      go false e = e

  -- of rows
  text_rows : (a n : ℕ) → texts (row_text w t) a n ≡ text_of (rows_on a n)
  unfolding texts row_text text_of rows_on
  text_rows a zero = refl
  text_rows a (suc n) =
      ap (λ (l : List ℕ). row_text w t a ++ l) (text_rows (suc a) n)
      ∙ ap (λ (l : List ℕ). l ++ text_of (rows_on (suc a) n)) (text_row a a (groups w - a))
      ∙ sym (text_append (row_on a a (groups w - a)) (rows_on (suc a) n))

  -- of the whole sheet
  pub text_sheet : sheet_text w t ≡ text_of sheet_on
  unfolding sheet_text
  text_sheet = text_rows 2 (groups w - 2)

  -- ---- each names a pair that is on in t, and switches it on
  -- and both groups are such as an order may name
  abbrev pub Listed : List Order → Type 0
  Listed [] = Unit
  Listed (order a b v ∷ os) = ((P w t a b ≡ true) × (v ≡ true) × (Zone w a × Zone w b)) × Listed os

  -- so it is of two lists together
  listed-append : (xs ys : List Order) → Listed xs → Listed ys → Listed (xs ++ ys)
  listed-append [] ys h k = k
  listed-append (order a b v ∷ xs) ys h k = (h.0, listed-append xs ys h.1 k)

  -- of a row
  listed_row : (a b n : ℕ) → 2 ≤ a → a ≤ b → b + n ≤ groups w → Listed (row_on a b n)
  unfolding row_on pair_on
  listed_row a b zero h l m = tt
  listed_row a b (suc n) h l m = go (P w t a b) refl (listed_row a (suc b) n h (omega arith) (omega arith))
    where
      go : (p : Bool) → P w t a b ≡ p → Listed (row_on a (suc b) n) → Listed (cond p (order a b true ∷ []) [] ++ row_on a (suc b) n)
      go true e k = ((e, refl, ((h, omega arith), (omega arith, omega arith))), k)
      go false e k = k

  -- of rows
  listed-rows : (a n : ℕ) → 2 ≤ a → a + n ≤ groups w → Listed (rows_on a n)
  unfolding rows_on
  listed-rows a zero h l = tt
  listed-rows a (suc n) h l =
      listed-append (row_on a a (groups w - a)) (rows_on (suc a) n)
      (listed_row a a (groups w - a) h (omega arith) (omega arith)) (listed-rows (suc a) n (omega arith) (omega arith))

  -- and of all that the sheet lists
  pub listed : 1 ≤ w → Listed sheet_on
  listed h = listed-rows 2 (groups w - 2) (omega arith) (omega arith)

  -- so each names two groups that an order may name
  valid_listed : (os : List Order) → Listed os → Valid w os
  valid_listed [] h = tt
  valid_listed (order a b v ∷ os) h = (h.0.2, valid_listed os h.1)

  -- ---- a pair that is off is not listed
  -- an order for a pair that is on does not name one that is off
  off_named : (a b c d : ℕ) → Mutual w t → Zone w a → Zone w b → P w t a b ≡ true → P w t c d ≡ false → names a b c d ≡ false
  off_named a b c d m za zb on off = go (names a b c d) refl
    where
      clash : ((c ≡ a) × (d ≡ b)) ⊎ ((c ≡ b) × (d ≡ a)) → ⊥
      clash (inl q) = true≢false (sym on ∙ ap (λ (i : ℕ). P w t i b) (sym q.0) ∙ ap (P w t c) (sym q.1) ∙ off)
      clash (inr q) =
          true≢false (sym on ∙ m a b za.1 zb.1 ∙ ap (λ (i : ℕ). P w t i a) (sym q.0) ∙ ap (P w t c) (sym q.1) ∙ off)

      go : (x : Bool) → names a b c d ≡ x → x ≡ false
      go false e = refl
      go true e = absurd (clash (names_true a b c d e))

  -- so none of those listed names it
  off_silent : (os : List Order) (c d : ℕ) → Mutual w t → Listed os → P w t c d ≡ false → Silent os c d
  off_silent [] c d m h e = tt
  off_silent (order a b v ∷ os) c d m h e =
      (off_named a b c d m h.0.2.0 h.0.2.1 h.0.0 e, off_silent os c d m h.1 e)

  -- ---- a pair that is on is listed
  -- by itself
  has_pair : (a b : ℕ) → P w t a b ≡ true → Has (pair_on a b) a b
  unfolding pair_on
  has_pair a b e = rw e (inl (refl, refl))

  -- in its row
  has_row : (a b n d : ℕ) → b ≤ d → d < b + n → P w t a d ≡ true → Has (row_on a b n) a d
  unfolding row_on
  has_row a b zero d l m e = absurd (omega arith)
  has_row a b (suc n) d l m e = go (ℕ_discrete b d) (has_row a (suc b) n d)
    where
      go : Dec (b ≡ d) → (suc b ≤ d → d < suc b + n → P w t a d ≡ true → Has (row_on a (suc b) n) a d) → Has (pair_on a b ++ row_on a (suc b) n) a d
      go (yes q) rest = has_left (pair_on a b) (row_on a (suc b) n) a d (rw q (has_pair a d e))
      go (no q) rest = has_right (pair_on a b) (row_on a (suc b) n) a d (rest (omega arith) (omega arith) e)

  -- and among the rows
  has-rows : (a n c d : ℕ) → a ≤ c → c < a + n → c ≤ d → d < groups w → P w t c d ≡ true → Has (rows_on a n) c d
  unfolding rows_on
  has-rows a zero c d l m k h e = absurd (omega arith)
  has-rows a (suc n) c d l m k h e = go (ℕ_discrete a c) (has-rows (suc a) n c d)
    where
      go : Dec (a ≡ c) → (suc a ≤ c → c < suc a + n → c ≤ d → d < groups w → P w t c d ≡ true → Has (rows_on (suc a) n) c d)
          → Has (row_on a a (groups w - a) ++ rows_on (suc a) n) c d
      go (yes q) rest = has_left (row_on a a (groups w - a)) (rows_on (suc a) n) c d (rw q (has_row c c (groups w - c) d k (omega arith) e))
      go (no q) rest = has_right (row_on a a (groups w - a)) (rows_on (suc a) n) c d (rest (omega arith) (omega arith) k h e)

  -- what is on stays on, as no listed order switches off
  stays_on : (os : List Order) (c d : ℕ) → Listed os → latest os c d true ≡ true
  unfolding latest
  stays_on [] c d h = refl
  stays_on (order a b v ∷ os) c d h = rw h.0.1 (ap (λ (x : Bool). latest os c d x) (same (names a b c d)) ∙ stays_on os c d h.1)
    where
      same : (x : Bool) → cond x true true ≡ true
      same true = refl
      same false = refl

  -- so a pair that is listed is on after them
  listed_on : (os : List Order) (c d : ℕ) (x : Bool) → Listed os → Has os c d → latest os c d x ≡ true
  unfolding latest
  listed_on [] c d x h k = absurd k
  listed_on (order a b v ∷ os) c d x h (inl q) =
      ap (λ (y : Bool). latest os c d y)
      (ap (λ (y : Bool). cond y v x) (ap (λ (i : ℕ). names i b c d) q.0 ∙ ap (λ (i : ℕ). names c i c d) q.1 ∙ names_self c d) ∙ h.0.1)
      ∙ stays_on os c d h.1
  listed_on (order a b v ∷ os) c d x h (inr k) = listed_on os c d (cond (names a b c d) v x) h.1 k

-- ---- the table at start-up is of bytes
-- each of its bytes is one
start_small : (w k : ℕ) → start_byte w k < 256
unfolding start_byte
start_small w k = go (eqb (k / w) 1) (eqb (k % w) (w - 1))
  where
    go : (x y : Bool) → cond x 255 (cond y 2 0) < 256
    go true y = omega arith
    go false true = omega arith
    go false false = omega arith

-- and so is what is read past its end, 0
bytes_start : (w : ℕ) → Bytes (start_table w)
bytes_start w i = go (dec_lt i (table_size w))
  where
    go : Dec (i < table_size w) → get_or (start_table w) i 0 < 256
    go (yes h) = rw (get_or-start w i h) (start_small w i)
    go (no n) =
        let l : length (start_table w) ≤ i = omega (arith, length-start w) in
        let e : get_or (start_table w) i 0 ≡ 0 = get_or-eq_default (start_table w) 0 l in
        omega arith

-- ---- so the orders listed make t of it
module _ (w : ℕ) (t : List ℕ) (os : List Order) (wide : 1 ≤ w) (says : Says w t os) where
  -- of two groups from 2 on the listed orders say what t says
  pair_latest : (c d : ℕ) → Zone w c → Zone w d → latest (sheet_on w t) c d false ≡ P w t c d
  pair_latest c d zc zd = go (P w t c d) refl
    where
      on : (e f : ℕ) → Zone w e → Zone w f → e ≤ f → P w t e f ≡ true → latest (sheet_on w t) e f false ≡ true
      on e f ze zf l q = listed_on w t (sheet_on w t) e f false (listed w t wide) (has-rows w t 2 (groups w - 2) e f ze.0 (omega arith) l zf.1 q)

      way : P w t c d ≡ true → Dec (d < c) → latest (sheet_on w t) c d false ≡ true
      way e (yes l) = latest_swap (sheet_on w t) c d false ∙ on d c zd zc (omega arith) (says.both_ways d c zd.1 zc.1 ∙ e)
      way e (no n) = on c d zc zd (omega arith) e

      go : (p : Bool) → P w t c d ≡ p → latest (sheet_on w t) c d false ≡ p
      go false e = latest_none (sheet_on w t) c d false (off_silent w t (sheet_on w t) c d says.both_ways (listed w t wide) e)
      go true e = way e (dec_lt d c)

  -- and groups 0 and 1 stand in both as at start-up, so the orders make t
  pub made : length t ≡ table_size w → Bytes t → apply w (sheet_on w t) (start_table w) ≡ t
  made hl hb =
      table_ext w (apply w (sheet_on w t) (start_table w)) t (bytes_apply w (sheet_on w t) (start_table w) (bytes_start w)) hb
      (λ c d hc hd. each c d hc hd (dec_lt c 2) (dec_lt d 2))
      (length-apply w (sheet_on w t) (start_table w) ∙ length-start w) hl
    where
      valid : Valid w (sheet_on w t)
      valid = valid_listed w t (sheet_on w t) (listed w t wide)

      low : (c d : ℕ) → c < groups w → d < groups w → (c < 2) ⊎ (d < 2) → P w (apply w (sheet_on w t) (start_table w)) c d ≡ P w t c d
      low c d hc hd h = low_kept w (sheet_on w t) valid (start_table w) (length-start w) c d hd h ∙ sym (says.low c d hc hd h)

      each : (c d : ℕ) → c < groups w → d < groups w → Dec (c < 2) → Dec (d < 2) → P w (apply w (sheet_on w t) (start_table w)) c d ≡ P w t c d
      each c d hc hd (yes h) x = low c d hc hd (inl h)
      each c d hc hd (no n) (yes h) = low c d hc hd (inr h)
      each c d hc hd (no h) (no k) =
          (history w (sheet_on w t) valid).pairs c d (omega arith, hc) (omega arith, hd) ∙ pair_latest c d (omega arith, hc) (omega arith, hd)
