-- Export: a line's runs of bytes, each put behind the one before or over its rest, and how long a sheet is at most.
-- Assumes nothing.
use mathlib.Core.Path.{◌≡◌, refl, sym, ap, ◌∙◌}
use mathlib.Core.Bool.{Bool, true, false, cond}
use mathlib.Core.List.{List, [], ◌∷◌, ◌++◌}
use Prim.Native.Nat.{ℕ, zero, suc, ◌+◌, ◌-◌, ◌*◌, ◌/◌, ◌%◌, ◌≤◌, ◌<◌}
use native.Mathlib.Nat.{add-zero, zero-add}
use native.Mathlib.Numerals.{add-one}
use native.Mathlib.Decide.{dec_lt}
use native.Mathlib.Omega.{arith}
use borrow.Author.Tests.{not-false}
use borrow.Rule.Slice.PartMut.{put_mid}
use lib.ListN.{length, take, drop, set, length-take, length-append}
use lib.Seq.{sets, sets-eq, set-set, set_comm, take-take, take-append_seam, append_snoc}
use Rattle.std.proofs.Common.{Ok}
use Rattle.std.proofs.lemmas.Slice.{put_mid-paste}
use Rattle.permit.specs.Permission.{groups, permissions_sized, P, reaches, Width, Table}
use Rattle.permit.proofs.Laws.{table_sized}
use Rattle.permit.proofs.ReachLaws.{reach_held}
use Rattle.tables.specs.Outcome.{answer, out}
use Rattle.tables.specs.Refusals.{first_refusal}
use Rattle.tables.proofs.RefusalLaws.{clear}
use Rattle.tables.proofs.OutcomeLaws.{gives}
use Rattle.lines.specs.Written.{written, Wrote}
use Rattle.lines.proofs.Lines.{length-written}
use Rattle.lines.proofs.Putting.{wrote_nothing, Putting, putting_room, putting_end, sums, texts_most, sums_same, sums_longer}
use Rattle.sheet_lines.specs.Line.{CR, LF, numeral, line_text}
use Rattle.sheet_lines.proofs.NumeralLaws.{one_figure, two-figures, three-figures}
use Rattle.exports.specs.Fields.{bytes_of, FieldOf, FieldPut}
use Rattle.exports.specs.Export.{pair_text, row_text, sheet_text, export_checks, exported_as, export_out}

-- ---- bytes put over others
-- a byte before the others, put after them
set_before : (t : List ℕ) (i j x : ℕ) (xs : List ℕ) → i < j → set (sets t j xs) i x ≡ sets (set t i x) j xs
set_before t i j x [] h = refl
set_before t i j x (y ∷ xs) h =
    set_before (set t j y) i (suc j) x xs (omega arith)
    ∙ ap (λ (u : List ℕ). sets u (suc j) xs) (set_comm t j i y x (λ e. absurd (omega (arith, e))))

-- all of them are put over
sets_over : (t : List ℕ) (i : ℕ) (xs ys : List ℕ) → length xs ≤ length ys → sets (sets t i xs) i ys ≡ sets t i ys
sets_over t i [] ys h = refl
sets_over t i (x ∷ xs) [] h = absurd (omega arith)
sets_over t i (x ∷ xs) (y ∷ ys) h =
    ap (λ (u : List ℕ). sets u (suc i) ys) (set_before (set t i x) i (suc i) y xs (omega arith) ∙ ap (λ (u : List ℕ). sets u (suc i) xs) (set-set t i x y))
    ∙ sets_over (set t i y) (suc i) xs ys (omega arith)

-- all but the first k
sets_over_rest : (k : ℕ) (t : List ℕ) (i : ℕ) (xs ys : List ℕ) → k ≤ length xs → length xs ≤ k + length ys
    → sets (sets t i xs) (i + k) ys ≡ sets t i (take k xs ++ ys)
sets_over_rest zero t i xs ys h l = rw (add-zero i) (sets_over t i xs ys (omega arith))
sets_over_rest (suc k) t i [] ys h l = absurd (omega arith)
sets_over_rest (suc k) t i (x ∷ xs) ys h l =
    let e : i + suc k ≡ suc i + k = omega arith in
    rw e (sets_over_rest k (set t i x) (suc i) xs ys (omega arith) (omega arith))

wrote_over : (k : ℕ) (t : List ℕ) (at : ℕ) (xs front : List ℕ) (t₁ bytes : List ℕ) (end : ℕ) (t₂ : List ℕ)
    → t₁ ≡ written t at xs → take k xs ≡ front → k ≡ length front → k ≤ length xs → length xs ≤ k + length bytes
    → Wrote t₁ (at + k) bytes end t₂ → Wrote t at (front ++ bytes) end t₂
unfolding written
wrote_over k t at xs front t₁ bytes end t₂ e f l h m w = record {
  ends = omega (arith, w.ends, length-append front bytes);
  wrote = w.wrote ∙ rw e (sets_over_rest k t at xs bytes h m) ∙ ap (λ (u : List ℕ). sets t at (u ++ bytes)) f;
}

-- ---- a field
-- the four bytes of a number that is made of them
bytes_of_lem : (m x y z w : ℕ) → m ≡ x + 256 * (y + 256 * (z + 256 * w)) → x < 256 → y < 256 → z < 256 → w < 256 → bytes_of m ≡ x ∷ y ∷ z ∷ w ∷ []
bytes_of_lem m x y z w e hx hy hz hw =
    let a : m % 256 ≡ x = omega arith in
    let b : m / 256 ≡ y + 256 * (z + 256 * w) = omega arith in
    let c : m / 65536 ≡ z + 256 * w = omega arith in
    let d : m / 16777216 ≡ w = omega arith in
    let f : (y + 256 * (z + 256 * w)) % 256 ≡ y = omega arith in
    let g : (z + 256 * w) % 256 ≡ z = omega arith in
    let h : w % 256 ≡ w = omega arith in
    rw (a, b, c, d, f, g, h)

module _ (n : ℕ) where
  pub field_one : n < 10 → FieldOf n (11312 + n) 2 × (2 ≤ 4)
  field_one h =
      let e = bytes_of_lem (11312 + n) (48 + n) 44 0 0 (omega arith) (omega arith) (omega arith) (omega arith) (omega arith) in
      (record { begins = rw (one_figure n h) (ap (take 2) e); counts = sym (ap (λ (l : List ℕ). length l + 1) (one_figure n h)) }, omega arith)

  pub field_two : 10 ≤ n → n < 100 → FieldOf n (2895920 + 256 * n - 2559 * (n / 10)) 3 × (3 ≤ 4)
  field_two h l =
      let e = bytes_of_lem (2895920 + 256 * n - 2559 * (n / 10)) (48 + n / 10) (48 + n % 10) 44 0 (omega arith) (omega arith) (omega arith) (omega arith) (omega arith) in
      (record { begins = rw (two-figures n h l) (ap (take 3) e); counts = sym (ap (λ (l : List ℕ). length l + 1) (two-figures n h l)) }, omega arith)

  pub field_three : 100 ≤ n → n < 128 → FieldOf n (741353009 + 65536 * n - 655104 * (n / 10)) 4 × (4 ≤ 4)
  field_three h l =
      let f = three-figures n h (omega arith) in
      let a : n / 100 ≡ 1 = omega arith in
      let b : n / 10 % 10 ≡ n / 10 - 10 = omega arith in
      let e = bytes_of_lem (741353009 + 65536 * n - 655104 * (n / 10)) (48 + n / 100) (48 + n / 10 % 10) (48 + n % 10) 44 (omega arith) (omega arith) (omega arith) (omega arith) (omega arith) in
      (record { begins = rw f (ap (take 4) e); counts = sym (ap (λ (l : List ℕ). length l + 1) f) }, omega arith)

-- four bytes, put one by one
pub put_four : (t : List ℕ) (at x y z w : ℕ)
    → Wrote t at (x ∷ y ∷ z ∷ w ∷ []) (at + 4) (set (set (set (set t at x) (at + 1) y) (at + 2) z) (at + 3) w)
unfolding written
put_four t at x y z w =
    let e : at + 2 ≡ suc (suc at) = omega arith in
    let f : at + 3 ≡ suc (suc (suc at)) = omega arith in
    record { ends = refl; wrote = rw (add-one at, e, f) }

-- a field's, put one by one
pub field_put : (n : ℕ) (t : List ℕ) (at x k : ℕ) → FieldOf n x k × (k ≤ 4)
    → FieldPut n t at (at + k)
    (set (set (set (set t at (x % 256)) (at + 1) (x / 256 % 256)) (at + 2) (x / 65536 % 256)) (at + 3) (x / 16777216 % 256))
field_put n t at x k f = record {
  bytes = bytes_of x;
  four = refl;
  begins = f.0.begins;
  put = (put_four t at (x % 256) (x / 256 % 256) (x / 65536 % 256) (x / 16777216 % 256)).wrote;
  ends = ap (λ (m : ℕ). at + m) f.0.counts;
}

-- As the code puts them: ys are the four, and the text's k bytes from `at` on become these at once. It is the same text.
four_at_once : (t : List ℕ) (at k x y z w : ℕ) (ys : List ℕ) → at + 4 ≤ length t → k ≡ 4 → ys ≡ x ∷ y ∷ z ∷ w ∷ []
    → put_mid at k t ys ≡ set (set (set (set t at x) (at + 1) y) (at + 2) z) (at + 3) w
unfolding written
four_at_once t at k x y z w ys h e p =
    put_mid-paste at k t ys (x ∷ y ∷ z ∷ w ∷ []) 4 p (sym e) refl ∙ sym (sets-eq (x ∷ y ∷ z ∷ w ∷ []) t at h) ∙ sym (put_four t at x y z w).wrote

pub put_four_at_once : (t : List ℕ) (at k x y z w : ℕ) (ys : List ℕ) → at + 4 ≤ length t → k ≡ 4 → ys ≡ x ∷ y ∷ z ∷ w ∷ []
    → Wrote t at (x ∷ y ∷ z ∷ w ∷ []) (at + 4) (put_mid at k t ys)
put_four_at_once t at k x y z w ys h e p = rw (four_at_once t at k x y z w ys h e p) (put_four t at x y z w)

pub field_put_at_once : (n : ℕ) (t : List ℕ) (at k x count : ℕ) (ys : List ℕ) → FieldOf n x count × (count ≤ 4) → at + 4 ≤ length t → k ≡ 4
    → ys ≡ bytes_of x → FieldPut n t at (at + count) (put_mid at k t ys)
field_put_at_once n t at k x count ys f h e p =
    rw (four_at_once t at k (x % 256) (x / 256 % 256) (x / 65536 % 256) (x / 16777216 % 256) ys h e p) (field_put n t at x count f)

-- what is put behind a field, or from its comma on, is put over the rest of the four bytes
module _ (n : ℕ) (t : List ℕ) (at i : ℕ) (t₁ : List ℕ) (p : FieldPut n t at i t₁) (bytes : List ℕ) (end : ℕ) (t₂ : List ℕ) where
  within : length (numeral n) + 1 ≤ 4
  within =
      let e = sym (length-take (length (numeral n) + 1) p.bytes) ∙ ap length p.begins ∙ length-append (numeral n) (44 ∷ []) in
      let f = p.four in
      omega arith

  behind_field : 3 ≤ length (numeral n) + length bytes → Wrote t₁ i bytes end t₂ → Wrote t at (numeral n ++ 44 ∷ bytes) end t₂
  behind_field h w =
      rw (sym (append_snoc (numeral n) 44 bytes))
      (wrote_over (length (numeral n) + 1) t at p.bytes (numeral n ++ (44 ∷ [])) t₁ bytes end t₂ p.put p.begins
      (sym (length-append (numeral n) (44 ∷ []))) (omega (arith, p.four, within)) (omega (arith, p.four)) (rw (sym p.ends) w))

  from_comma : 4 ≤ length (numeral n) + length bytes → Wrote t₁ (i - 1) bytes end t₂ → Wrote t at (numeral n ++ bytes) end t₂
  from_comma h w =
      let k = length (numeral n) in
      let e : take k p.bytes ≡ numeral n =
      sym (take-take k (k + 1) p.bytes (omega arith)) ∙ ap (take k) p.begins ∙ take-append_seam (numeral n) (44 ∷ []) in
      let f : i - 1 ≡ at + k = omega (arith, p.ends) in
      wrote_over k t at p.bytes (numeral n) t₁ bytes end t₂ p.put e refl (omega (arith, p.four, within)) (omega (arith, p.four)) (rw (sym f) w)

pub field_some : (n : ℕ) (t t₁ : List ℕ) (at i : ℕ) → FieldPut n t at i t₁ → 1 ≤ i
field_some n t t₁ at i p = omega (arith, p.ends)

field_length : (n : ℕ) (t t₁ : List ℕ) (at i : ℕ) → FieldPut n t at i t₁ → length t₁ ≡ length t
field_length n t t₁ at i p = ap length p.put ∙ length-written t at p.bytes

-- ---- a line
pub line-length : (a b : ℕ) → length (line_text a b true (CR ∷ LF ∷ [])) ≡ length (numeral a) + (1 + (length (numeral b) + 4))
unfolding line_text
line-length a b =
    length-append (numeral a) (44 ∷ (numeral b ++ (44 ∷ 49 ∷ 13 ∷ 10 ∷ [])))
    ∙ ap (λ (n : ℕ). length (numeral a) + suc n) (length-append (numeral b) (44 ∷ 49 ∷ 13 ∷ 10 ∷ []))
    ∙ omega arith

module _ (a b : ℕ) (t : List ℕ) (at : ℕ) (room : at + length (line_text a b true (CR ∷ LF ∷ [])) ≤ length t) where
  pub line_room : at + 4 ≤ length t
  line_room = let e = line-length a b in omega arith

  module _ (t₁ : List ℕ) (i : ℕ) (p : FieldPut a t at i t₁) where
    pub line_room_2 : i + 4 ≤ length t₁
    line_room_2 = let e = line-length a b in let f = p.ends in let l = field_length a t t₁ at i p in omega arith

    module _ (t₂ : List ℕ) (j : ℕ) (q : FieldPut b t₁ i j t₂) where
      pub line_room_3 : j - 1 + 4 ≤ length t₂
      line_room_3 =
          let e = line-length a b in
          let f = p.ends in
          let g = q.ends in
          let l = field_length a t t₁ at i p in
          let m = field_length b t₁ t₂ i j q in
          omega arith

      pub line-put : (t₃ : List ℕ) (end : ℕ) → Wrote t₂ (j - 1) (44 ∷ 49 ∷ 13 ∷ 10 ∷ []) end t₃ → Wrote t at (line_text a b true (CR ∷ LF ∷ [])) end t₃
      unfolding line_text
      line-put t₃ end w =
          behind_field a t at i t₁ p (numeral b ++ (44 ∷ 49 ∷ 13 ∷ 10 ∷ [])) end t₃
          (omega (arith, length-append (numeral b) (44 ∷ 49 ∷ 13 ∷ 10 ∷ [])))
          (from_comma b t₁ i j t₂ q (44 ∷ 49 ∷ 13 ∷ 10 ∷ []) end t₃ (omega arith) w)

-- ---- a pair
pub group_most : (w : ℕ) (t : List ℕ) (a : ℕ) → Table w t → a < groups w → a < 128
group_most w t a s h = let m = s.most in omega arith

-- as the code has it: p is whether a reaches b, and the table holds both
module _ (w : ℕ) (t : List ℕ) (a b : ℕ) (p : Bool) (e : p ≡ reaches w t a b) (ha : a < groups w) (hb : b < groups w) where
  held : p ≡ P w t a b
  held = reach_held w t a b p ha hb e

  pair_on : p ≡ true → pair_text w t a b ≡ line_text a b true (CR ∷ LF ∷ [])
  unfolding pair_text
  pair_on h = rw (sym held ∙ h)

  pair_off : p ≡ false → pair_text w t a b ≡ []
  unfolding pair_text
  pair_off h = rw (sym held ∙ h)

  pub pair_room : (text : List ℕ) (at : ℕ) → p ≡ true → at + length (pair_text w t a b) ≤ length text → at + length (line_text a b true (CR ∷ LF ∷ [])) ≤ length text
  pair_room text at h l = let q = ap length (pair_on h) in omega arith

  pub pair_line : (text text₁ : List ℕ) (at end : ℕ) → p ≡ true → Wrote text at (line_text a b true (CR ∷ LF ∷ [])) end text₁ → Wrote text at (pair_text w t a b) end text₁
  pair_line text text₁ at end h w = rw (pair_on h) w

  pub pair_none : (text : List ℕ) (at : ℕ) → p ≡ false → Wrote text at (pair_text w t a b) at text
  pair_none text at h = rw (pair_off h) (wrote_nothing text at)

-- a row's loop, and the sheet's
module _ (w : ℕ) (t : List ℕ) (a : ℕ) (text₀ : List ℕ) (at : ℕ) (text : List ℕ) (end b : ℕ) (p : Putting (pair_text w t a) a (groups w) text₀ at text end b) where
  pub row_room : b < groups w → at + length (row_text w t a) ≤ length text₀ → end + length (pair_text w t a b) ≤ length text
  unfolding row_text
  row_room h room = putting_room (pair_text w t a) a (groups w) text₀ at text end b p h room

  pub row_end : groups w ≤ b → Wrote text₀ at (row_text w t a) end text
  unfolding row_text
  row_end h = putting_end (pair_text w t a) a (groups w) text₀ at text end b p h

module _ (w : ℕ) (t text₀ text : List ℕ) (end a : ℕ) (p : Putting (row_text w t) 2 (groups w) text₀ 0 text end a) where
  pub sheet_room : a < groups w → length (sheet_text w t) ≤ length text₀ → end + length (row_text w t a) ≤ length text
  unfolding sheet_text
  sheet_room h room = putting_room (row_text w t) 2 (groups w) text₀ 0 text end a p h (omega arith)

  pub sheet_end : groups w ≤ a → Wrote text₀ 0 (sheet_text w t) end text
  unfolding sheet_text
  sheet_end h = putting_end (row_text w t) 2 (groups w) text₀ 0 text end a p h

-- ---- how long a sheet is at most: 8,001 lines of 11 bytes
numeral-length : (n : ℕ) → n < 1000 → length (numeral n) ≤ 3
numeral-length n k = go (dec_lt n 10) (dec_lt n 100)
  where
    go : Dec (n < 10) → Dec (n < 100) → length (numeral n) ≤ 3
    go (yes h) x = let e = ap length (one_figure n h) in omega arith
    go (no h) (yes l) = let e = ap length (two-figures n (omega arith) l) in omega arith
    go (no h) (no l) = let e = ap length (three-figures n (omega arith) k) in omega arith

pair_length : (w : ℕ) (t : List ℕ) (a b : ℕ) → a < 1000 → b < 1000 → length (pair_text w t a b) ≤ 11
unfolding pair_text
pair_length w t a b ha hb = go (P w t a b)
  where
    go : (p : Bool) → length (cond p (line_text a b true (CR ∷ LF ∷ [])) []) ≤ 11
    go true = omega (arith, line-length a b, numeral-length a ha, numeral-length b hb)
    go false = omega arith

row_length : (w : ℕ) (t : List ℕ) (a : ℕ) → w ≤ 16 → a < groups w → length (row_text w t a) ≤ (128 - a) * 11
unfolding row_text
row_length w t a h l =
    let e = sums_same 11 a (groups w - a) in
    let b = texts_most (pair_text w t a) (λ (_ : ℕ). 11) (groups w) (λ k m. pair_length w t a k (omega arith) (omega arith)) a (groups w - a) (omega arith) in
    let c : (groups w - a) * 11 ≤ (128 - a) * 11 = omega arith in
    omega arith

pub sheet_length : (w : ℕ) (t : List ℕ) → 1 ≤ w → w ≤ 16 → length (sheet_text w t) ≤ 88011
unfolding sheet_text sums
sheet_length w t h l =
    let g : ℕ → ℕ = λ (a : ℕ). (128 - a) * 11 in
    let b = texts_most (row_text w t) g (groups w) (λ k m. row_length w t k l m) 2 (groups w - 2) (omega arith) in
    let c = sums_longer g 2 (groups w - 2) (128 - groups w) in
    let e : groups w - 2 + (128 - groups w) ≡ 126 = omega arith in
    let d : sums g 2 (groups w - 2 + (128 - groups w)) ≡ 88011 = ap (sums g 2) e in
    omega arith

-- ---- the call's end
pub export_room : (w : ℕ) (t : List ℕ) (room : ℕ) → Width w → 0 ≡ first_refusal (export_checks w t room)
    → Table w t × (length (sheet_text w t) ≤ room)
export_room w t room h e =
    let k = clear (export_checks w t room) 0 e refl tt in
    (table_sized w t h (not-false (permissions_sized w t) k.0), omega (arith, sheet_length w t h.some h.most))

pub export_short : (w : ℕ) (t s s₁ : List ℕ) (end : ℕ) → Width w → Wrote s 0 (sheet_text w t) end s₁ → end ≤ 88011
export_short w t s s₁ end h p = let l = sheet_length w t h.some h.most in let f = p.ends in omega arith

pub export_gives : (w : ℕ) (t s s₁ : List ℕ) (end : ℕ) → Width w → 0 ≡ first_refusal (export_checks w t (length s)) → Wrote s 0 (sheet_text w t) end s₁
    → out (exported_as (Ok end)) (s₁ ∷ []) ≡ export_out w t s
unfolding written
export_gives w t s s₁ end h e p =
    let l = (export_room w t (length s) h e).1 in
    let f = p.ends in
    let en : end ≡ length (sheet_text w t) = omega arith in
    gives (exported_as (Ok end)) (length (sheet_text w t) ∷ []) (first_refusal (export_checks w t (length s))) (s₁ ∷ []) (s ∷ []) ((sheet_text w t ++ drop (length (sheet_text w t)) s) ∷ []) e
    (ap (λ (m : ℕ). answer (m ∷ [])) en)
    (ap (λ (u : List ℕ). u ∷ [])
    (p.wrote ∙ sets-eq (sheet_text w t) s 0 (omega arith) ∙ ap (λ (m : ℕ). sheet_text w t ++ drop m s) (zero-add (length (sheet_text w t)))))
