-- Start-up's steps write the table of start-up, for any row width.
-- Assumes nothing.
use mathlib.Core.Path.{◌≡◌, refl, sym, ap, ◌∙◌}
use mathlib.Core.Bool.{cond, ◌&&◌}
use mathlib.Core.List.{List}
use mathlib.Core.Logic.{◌⊎◌, inl, inr}
use Prim.Native.Nat.{ℕ, ◌+◌, ◌-◌, ◌*◌, ◌/◌, ◌%◌, ◌≤◌, ◌<◌}
use native.Mathlib.Nat.{mod-lt, mod-eq_of_lt, mod-eq-sub-mod, div-eq_of_lt, div-eq_of_lt-le, div-lt_iff_lt-mul}
use native.Mathlib.Decide.{dec_lt, ℕ_discrete}
use native.Mathlib.Omega.{arith}
use borrow.Author.Tests.{eq-eqb, ne_eqb, lt-ltb, le-ltb, le-leb, lt-leb}
use lib.Dec.{eqb, leb, ltb}
use lib.ListN.{length, get_or, set, replicate, length-set}
use lib.Seq.{paste, length-paste, get_or-set_same, get_or-set_other, ext_get_or}
use borrow.Rule.Slice.PartMut.{put_mid}
use Rattle.std.proofs.lemmas.List.{get_or-replicate, length-replicate}
use Rattle.std.proofs.lemmas.Slice.{put_mid-paste}
use Rattle.wire.proofs.Copies.{paste_new, paste_below, paste_above}
use Rattle.permit.specs.Permission.{table_size, start_byte, start_table}
use Rattle.permit.specs.Start.{Between, row_again}
use Rattle.permit.proofs.Laws.{length-start, get_or-start}

-- ---- a loop that writes f from lo on
module _ (f : ℕ → ℕ) (lo : ℕ) (t : List ℕ) where
  pub between_start : lo ≤ length t → Between f lo t t lo
  between_start h = record {
    from = omega arith;
    up_to = h;
    sized = refl;
    says = λ i hi. none i (dec_lt i lo);
  }
    where
      none : (i : ℕ) → Dec (i < lo) → get_or t i 0 ≡ cond (leb lo i && ltb i lo) (f i) (get_or t i 0)
      none i (yes l) = rw (lt-leb lo i l)
      none i (no l) = rw (le-leb lo i (omega arith), le-ltb i lo (omega arith))

  pub between_again : (u : List ℕ) (at x : ℕ) → at < length t → x ≡ f at → Between f lo t u at → Between f lo t (set u at x) (at + 1)
  between_again u at x h e s = record {
    from = omega (arith, s.from);
    up_to = omega arith;
    sized = length-set u at x ∙ s.sized;
    says = λ i hi. go i (s.says i hi) (ℕ_discrete i at) (dec_lt i at);
  }
    where
      go : (i : ℕ) → get_or u i 0 ≡ cond (leb lo i && ltb i at) (f i) (get_or t i 0) → Dec (i ≡ at) → Dec (i < at)
          → get_or (set u at x) i 0 ≡ cond (leb lo i && ltb i (at + 1)) (f i) (get_or t i 0)
      go i p (yes q) l =
          rw (q, le-leb lo at s.from, lt-ltb at (at + 1) (omega arith)) (get_or-set_same u at x 0 (omega (arith, s.sized)) ∙ e)
      go i p (no n) (yes l) = rw (get_or-set_other u at i x 0 n, p, lt-ltb i at l, lt-ltb i (at + 1) (omega arith))
      go i p (no n) (no l) = rw (get_or-set_other u at i x 0 n, p, le-ltb i at (omega arith), le-ltb i (at + 1) (omega arith))

  -- what stands in a written byte, and in any other
  pub between_in : (u : List ℕ) (at i : ℕ) → Between f lo t u at → lo ≤ i → i < at → get_or u i 0 ≡ f i
  between_in u at i s l h = s.says i (omega (arith, s.up_to)) ∙ rw (le-leb lo i l, lt-ltb i at h)

  pub between_below : (u : List ℕ) (at i : ℕ) → Between f lo t u at → i < lo → get_or u i 0 ≡ get_or t i 0
  between_below u at i s h = s.says i (omega (arith, s.from, s.up_to)) ∙ rw (lt-leb lo i h)

  pub between_above : (u : List ℕ) (at i : ℕ) → Between f lo t u at → i < length t → at ≤ i → get_or u i 0 ≡ get_or t i 0
  between_above u at i s h l = s.says i h ∙ rw (le-leb lo i (omega (arith, s.from)), le-ltb i at l)

-- a part filled with x
pub between_filled : (x lo at : ℕ) (t ys : List ℕ) → lo ≤ at → at ≤ length t → ys ≡ replicate (at - lo) x → Between (λ _. x) lo t (put_mid lo (at - lo) t ys) at
between_filled x lo at t ys h l e = rw pasted (record {
  from = h;
  up_to = l;
  sized = length-paste t lo xs n room source;
  says = λ i hi. go i (dec_lt i lo) (dec_lt i at);
})
  where
    n : ℕ
    n = at - lo

    xs : List ℕ
    xs = replicate n x

    room : lo + n ≤ length t
    room = omega arith

    source : n ≤ length xs
    source = omega (arith, length-replicate n x)

    pasted : put_mid lo n t ys ≡ paste t lo xs n
    pasted = put_mid-paste lo n t ys xs n e refl (sym (length-replicate n x))

    go : (i : ℕ) → Dec (i < lo) → Dec (i < at) → get_or (paste t lo xs n) i 0 ≡ cond (leb lo i && ltb i at) x (get_or t i 0)
    go i (yes a) d = rw (lt-leb lo i a) (paste_below t lo xs n room source i a)
    go i (no a) (yes b) =
        let q : lo + (i - lo) ≡ i = omega arith in
        rw (le-leb lo i (omega arith), lt-ltb i at b)
        (ap (λ (m : ℕ). get_or (paste t lo xs n) m 0) (sym q) ∙ paste_new t lo xs n room source (i - lo) (omega arith) ∙ get_or-replicate n (i - lo) x 0 (omega arith))
    go i (no a) (no b) =
        rw (le-leb lo i (omega arith), le-ltb i at (omega arith)) (paste_above t lo xs n room source i (omega arith))

-- two writes side by side are one
pub between_join : (f g : ℕ → ℕ) (lo at to : ℕ) (t u v : List ℕ) → Between f lo t u at → Between g at u v to
    → ((i : ℕ) → at ≤ i → i < to → g i ≡ f i) → Between f lo t v to
between_join f g lo at to t u v s r e = record {
  from = omega (arith, s.from, r.from);
  up_to = omega (arith, s.sized, r.up_to);
  sized = r.sized ∙ s.sized;
  says = λ i hi. go i hi (dec_lt i at) (dec_lt i to);
}
  where
    go : (i : ℕ) → i < length t → Dec (i < at) → Dec (i < to) → get_or v i 0 ≡ cond (leb lo i && ltb i to) (f i) (get_or t i 0)
    go i hi (yes a) d =
        between_below g at u v to i r a ∙ s.says i hi ∙ rw (lt-ltb i at a, lt-ltb i to (omega (arith, r.from)))
    go i hi (no a) (yes b) =
        between_in g at u v to i r (omega arith) b ∙ e i (omega arith) b ∙ rw (le-leb lo i (omega (arith, s.from)), lt-ltb i to b)
    go i hi (no a) (no b) =
        between_above g at u v to i r (omega (arith, s.sized)) (omega arith)
        ∙ s.says i hi
        ∙ rw (le-leb lo i (omega (arith, s.from)), le-ltb i at (omega arith), le-ltb i to (omega arith))

-- whatever three steps and a store write, the length stays
pub steps_sized : (f g h : ℕ → ℕ) (i j k l m n at x : ℕ) (t a c d : List ℕ) → Between f i t a j → Between g k (set a at x) c l
    → Between h m c d n → length d ≡ length t
steps_sized f g h i j k l m n at x t a c d one two three = three.sized ∙ two.sized ∙ length-set a at x ∙ one.sized

-- ---- the loop that fills
module _ (x lo to : ℕ) where
  pub fill_again : (t u : List ℕ) (at : ℕ) → to ≤ length t → at < to → Between (λ _. x) lo t u at
      → Between (λ _. x) lo t (set u at x) (at + 1)
  fill_again t u at l h s = between_again (λ _. x) lo t u at x (omega arith) refl s

module _ (w : ℕ) (wide : 0 < w) where
  -- ---- the loop that makes every row row 0
  -- the byte one row back is row 0's already
  pub repeat_again : (t u : List ℕ) (at : ℕ) → length t ≡ table_size w → at < table_size w → Between (row_again w t) w t u at
      → Between (row_again w t) w t (set u at (get_or u (at - w) 0)) (at + 1)
  repeat_again t u at hl h s =
      between_again (row_again w t) w t u at (get_or u (at - w) 0) (omega arith)
      (back (dec_lt (at - w) w) ∙ ap (λ (m : ℕ). get_or t m 0) (sym (mod-eq-sub-mod {n = at} {m = w} s.from)))
      s
    where
      back : Dec (at - w < w) → get_or u (at - w) 0 ≡ get_or t ((at - w) % w) 0
      back (yes l) = between_below (row_again w t) w t u at (at - w) s l ∙ ap (λ (m : ℕ). get_or t m 0) (sym (mod-eq_of_lt l))
      back (no l) = between_in (row_again w t) w t u at (at - w) s (omega arith) (omega (arith, s.from))

  pub repeat_done : (t u : List ℕ) (at : ℕ) → length t ≡ table_size w → table_size w ≤ at → Between (row_again w t) w t u at
      → Between (row_again w t) w t u (table_size w)
  repeat_done t u at hl h s = let e : at ≡ table_size w = omega (arith, s.up_to) in rw (← e) s

  -- byte i of start-up, by where it is
  start_plain : (i x : ℕ) → (i < w) ⊎ (w + w ≤ i) → x ≡ cond (eqb (i % w) (w - 1)) 2 0 → x ≡ start_byte w i
  unfolding start_byte
  start_plain i x (inl l) e = rw (ne_eqb (i / w) 1 (λ z. omega (arith, div-eq_of_lt l))) e
  start_plain i x (inr l) e =
      rw (ne_eqb (i / w) 1 (λ z. let h : i < 2 * w = (div-lt_iff_lt-mul wide).0 (omega arith) in omega arith)) e

  start_one : (i x : ℕ) → w ≤ i → i < w + w → x ≡ 255 → x ≡ start_byte w i
  unfolding start_byte
  start_one i x l h e = rw (eq-eqb (i / w) 1 (div-eq_of_lt-le w (omega arith) (omega arith))) e

  -- ---- all steps together: row 0, every row as row 0, row 1
  pub start_made : (t a c d : List ℕ) → length t ≡ table_size w → Between (λ _. 0) 0 t a (w - 1)
      → Between (row_again w (set a (w - 1) 2)) w (set a (w - 1) 2) c (table_size w) → Between (λ _. 255) w c d (w + w)
      → d ≡ start_table w
  start_made t a c d hl zeros rows one =
      ext_get_or 0 d (start_table w) (long ∙ sym (length-start w)) (λ i h. byte i (omega (arith, long)) (dec_lt i w) (dec_lt i (w + w)) ∙ sym (get_or-start w i (omega (arith, long))))
    where
      long_c : length c ≡ table_size w
      long_c = rows.sized ∙ length-set a (w - 1) 2 ∙ zeros.sized ∙ hl

      long : length d ≡ table_size w
      long = one.sized ∙ long_c

      last : w - 1 < length a
      last = omega (arith, one.up_to, long_c, zeros.sized)

      first : (i : ℕ) → i < w → Dec (i ≡ w - 1) → get_or (set a (w - 1) 2) i 0 ≡ cond (eqb i (w - 1)) 2 0
      first i h (yes e) = rw (e, eq-eqb (w - 1) (w - 1) refl) (get_or-set_same a (w - 1) 2 0 last)
      first i h (no n) =
          rw (ne_eqb i (w - 1) n)
          (get_or-set_other a (w - 1) i 2 0 n ∙ between_in (λ _. 0) 0 t a (w - 1) i zeros (omega arith) (omega arith))

      plain : (i : ℕ) → i < table_size w → Dec (i < w) → get_or c i 0 ≡ cond (eqb (i % w) (w - 1)) 2 0
      plain i h (yes l) =
          between_below (row_again w (set a (w - 1) 2)) w (set a (w - 1) 2) c (table_size w) i rows l
          ∙ first i l (ℕ_discrete i (w - 1))
          ∙ ap (λ (m : ℕ). cond (eqb m (w - 1)) 2 0) (sym (mod-eq_of_lt l))
      plain i h (no l) =
          between_in (row_again w (set a (w - 1) 2)) w (set a (w - 1) 2) c (table_size w) i rows (omega arith) h
          ∙ first (i % w) (mod-lt i wide) (ℕ_discrete (i % w) (w - 1))

      byte : (i : ℕ) → i < table_size w → Dec (i < w) → Dec (i < w + w) → get_or d i 0 ≡ start_byte w i
      byte i h (yes l) m =
          start_plain i (get_or d i 0) (inl l) (between_below (λ _. 255) w c d (w + w) i one l ∙ plain i h (yes l))
      byte i h (no l) (yes m) = start_one i (get_or d i 0) (omega arith) m (between_in (λ _. 255) w c d (w + w) i one (omega arith) m)
      byte i h (no l) (no m) =
          start_plain i (get_or d i 0) (inr (omega arith)) (between_above (λ _. 255) w c d (w + w) i one (omega (arith, long_c)) (omega arith) ∙ plain i h (no l))
