-- Reading a line: each step of the code, at a place of the sheet, is a step of the definitions on the text from there on.
-- Assumes nothing.
use mathlib.Core.Path.{◌≡◌, refl, sym, ap, ◌∙◌}
use mathlib.Core.Bool.{Bool, true, false, not, ◌&&◌, true≢false}
use mathlib.Core.List.{List, [], ◌∷◌}
use Prim.Native.Nat.{ℕ, ◌+◌, ◌-◌, ◌*◌, ◌≤◌, ◌<◌}
use native.Mathlib.Numerals.{add-one}
use native.Mathlib.Decide.{dec_lt}
use native.Mathlib.Omega.{arith}
use borrow.Author.Tests.{leb-true, ltb-true, le-leb, lt-leb, eq-eqb, ne_eqb, not-true, not-false}
use lib.Dec.{eqb, ltb, leb}
use lib.ListN.{length, drop, get_or, drop_of_length-le}
use lib.Seq.{drop-cons}
use Rattle.sheet_lines.specs.Line.{is_figure, Field, found, none, figures, number, before_comma, before_lf, before_end, switch, line, bad, line_of}
use Rattle.std.specs.Prelude.{Option, Some, None}
use Rattle.sheet_lines.specs.Places.{capped, Reads, ReadAs, LineAt}
use Rattle.sheet_lines.specs.declared.Scanned.{Scanned}

-- ---- figures
pub figure_low : (c : ℕ) → c < 48 → false ≡ is_figure c
unfolding is_figure
figure_low c h = rw (lt-leb 48 c h)

pub figure_high : (c : ℕ) → 48 ≤ c → ltb c 58 ≡ is_figure c
unfolding is_figure
figure_high c h = rw (le-leb 48 c h)

pub both_true : (x y : Bool) → (x && y) ≡ true → (x ≡ true) × (y ≡ true)
both_true true true e = (refl, refl)
both_true true false e = absurd (true≢false (sym e))
both_true false y e = absurd (true≢false (sym e))

pub figure_range : (c : ℕ) → is_figure c ≡ true → (48 ≤ c) × (c < 58)
unfolding is_figure
figure_range c e = let p = both_true (leb 48 c) (ltb c 58) e in (leb-true 48 c p.0, ltb-true c 58 p.1)

pub figured : (c : ℕ) (f : Bool) → f ≡ is_figure c → not f ≡ false → is_figure c ≡ true
figured c f e n = sym e ∙ not-false f n

-- ---- the text from a place on
pub text_at : (s : List ℕ) (at : ℕ) → at < length s → drop at s ≡ get_or s at 0 ∷ drop (at + 1) s
text_at s at h = drop-cons s at 0 h ∙ rw (add-one at)

pub text_out : (s : List ℕ) (at : ℕ) → length s ≤ at → drop at s ≡ []
text_out s at h = drop_of_length-le s h

-- ---- the figures of a number: the loop
pub record Scanning (s : List ℕ) (at first value i : ℕ) : Type 0 where
  pub exact : ℕ
  pub caps : value ≡ capped exact
  pub left : figures first (drop at s) ≡ figures exact (drop i s)
  pub later : at ≤ i
  pub within : i ≤ length s

pub scan_start : (s : List ℕ) (at first : ℕ) → at ≤ length s → first < 10 → Scanning s at first first at
scan_start s at first h l = record { exact = first; caps = omega arith; left = refl; later = omega arith; within = h }

figures_more : (s : List ℕ) (i v : ℕ) → i < length s → is_figure (get_or s i 0) ≡ true
    → figures v (drop i s) ≡ figures (v * 10 + (get_or s i 0 - 48)) (drop (i + 1) s)
unfolding figures
figures_more s i v h e = rw (text_at s i h, e)

figures_stop : (s : List ℕ) (i v : ℕ) → i < length s → is_figure (get_or s i 0) ≡ false → figures v (drop i s) ≡ found v (drop i s)
unfolding figures
figures_stop s i v h e = ap (figures v) (text_at s i h) ∙ rw e (ap (found v) (sym (text_at s i h)))

figures_out : (s : List ℕ) (i v : ℕ) → length s ≤ i → figures v (drop i s) ≡ found v (drop i s)
unfolding figures
figures_out s i v h = rw (text_out s i h)

caps_more : (v w d : ℕ) → v ≡ capped w → capped (v * 10 + d) ≡ capped (w * 10 + d)
caps_more v w d e = omega arith

pub scan_value : (s : List ℕ) (at first value i : ℕ) → Scanning s at first value i → value ≤ 128
scan_value s at first value i r = let e = r.caps in omega arith

pub scan_again : (s : List ℕ) (at first value value' i : ℕ) (f : Bool) → i < length s → f ≡ is_figure (get_or s i 0) → not f ≡ false
    → value' ≡ capped (value * 10 + (get_or s i 0 - 48)) → Scanning s at first value i → Scanning s at first value' (i + 1)
scan_again s at first value value' i f h e n v r = let l = r.later in record {
  exact = r.exact * 10 + (get_or s i 0 - 48);
  caps = v ∙ caps_more value r.exact (get_or s i 0 - 48) r.caps;
  left = r.left ∙ figures_more s i r.exact h (sym e ∙ not-false f n);
  later = omega arith;
  within = omega arith;
}

pub scan_stop : (s : List ℕ) (at first value i : ℕ) (f : Bool) → i < length s → f ≡ is_figure (get_or s i 0) → not f ≡ true
    → Scanning s at first value i → Reads (figures first (drop at s)) s at value i
scan_stop s at first value i f h e n r = record {
  exact = r.exact;
  behind = drop i s;
  reads = r.left ∙ figures_stop s i r.exact h (sym e ∙ not-true f n);
  caps = r.caps;
  follows = refl;
  later = r.later;
  within = r.within;
}

pub scan_out : (s : List ℕ) (at first value i : ℕ) → length s ≤ i → Scanning s at first value i → Reads (figures first (drop at s)) s at value (length s)
scan_out s at first value i h r = let w = r.within in let l = r.later in let e : i ≡ length s = omega arith in record {
  exact = r.exact;
  behind = drop (length s) s;
  reads = r.left ∙ figures_out s i r.exact h ∙ ap (λ (m : ℕ). found r.exact (drop m s)) e;
  caps = r.caps;
  follows = refl;
  later = omega arith;
  within = omega arith;
}

-- ---- a number
pub number_out : (s : List ℕ) (at : ℕ) → length s ≤ at → number (drop at s) ≡ none
unfolding number
number_out s at h = rw (text_out s at h)

pub number_none : (s : List ℕ) (at : ℕ) (f : Bool) → at < length s → f ≡ is_figure (get_or s at 0) → not f ≡ true → number (drop at s) ≡ none
unfolding number
number_none s at f h e n = rw (text_at s at h, sym e ∙ not-true f n)

pub number_zero : (s : List ℕ) (at : ℕ) (f : Bool) → at < length s → f ≡ is_figure (get_or s at 0) → not f ≡ false → get_or s at 0 ≡ 48
    → Reads (number (drop at s)) s (at + 1) 0 (at + 1)
unfolding number
number_zero s at f h e n z = record {
  exact = 0;
  behind = drop (at + 1) s;
  reads = rw (text_at s at h, sym e ∙ not-false f n, eq-eqb (get_or s at 0) 48 z);
  caps = refl;
  follows = refl;
  later = omega arith;
  within = omega arith;
}

pub number_more : (s : List ℕ) (at : ℕ) (f : Bool) (first value next : ℕ) → at < length s → f ≡ is_figure (get_or s at 0) → not f ≡ false
    → (get_or s at 0 ≡ 48 → ⊥) → (first ≡ get_or s at 0 - 48) × (first < 10) → Reads (figures first (drop (at + 1) s)) s (at + 1) value next
    → Reads (number (drop at s)) s (at + 1) value next
unfolding number
number_more s at f first value next h e n z d r = record {
  exact = r.exact;
  behind = r.behind;
  reads = rw (text_at s at h, sym e ∙ not-false f n, ne_eqb (get_or s at 0) 48 z, ← d.0) r.reads;
  caps = r.caps;
  follows = r.follows;
  later = r.later;
  within = r.within;
}

-- ---- a number and its comma
comma_read : (f : Field) (v c : ℕ) (rest : List ℕ) → f ≡ found v (c ∷ rest) → c ≡ 44 → before_comma f ≡ found v rest
unfolding before_comma
comma_read f v c rest e n = rw (e, eq-eqb c 44 n)

pub field_none : (f : Field) → f ≡ none → before_comma f ≡ none
unfolding before_comma
field_none f e = rw e

module _ (f : Field) (s : List ℕ) (from x next : ℕ) (q : Reads f s from x next) where
  comma_at : next < length s → f ≡ found q.exact (get_or s next 0 ∷ drop (next + 1) s)
  comma_at h = q.reads ∙ ap (found q.exact) (sym q.follows ∙ text_at s next h)

  pub field_out : length s ≤ next → before_comma f ≡ none
  unfolding before_comma
  field_out l = rw (q.reads, sym q.follows ∙ text_out s next l)

  pub field_other : next < length s → (get_or s next 0 ≡ 44 → ⊥) → before_comma f ≡ none
  unfolding before_comma
  field_other l n = rw (comma_at l, ne_eqb (get_or s next 0) 44 n)

  pub field_read : next < length s → get_or s next 0 ≡ 44 → Reads (before_comma f) s from x (next + 1)
  field_read l n = let k = q.later in record {
    exact = q.exact;
    behind = drop (next + 1) s;
    reads = comma_read f q.exact (get_or s next 0) (drop (next + 1) s) (comma_at l) n;
    caps = q.caps;
    follows = refl;
    later = omega arith;
    within = omega arith;
  }

-- ---- the line's end
module _ (s : List ℕ) (at v : ℕ) where
  pub end_out : length s ≤ at → before_end v (drop at s) ≡ none
  unfolding before_end
  end_out h = rw (text_out s at h)

  pub end_lf : v < 2 → at < length s → get_or s at 0 ≡ 10 → Reads (before_end v (drop at s)) s at v (at + 1)
  unfolding before_end
  end_lf m h e = record {
    exact = v;
    behind = drop (at + 1) s;
    reads = rw (text_at s at h, eq-eqb (get_or s at 0) 10 e);
    caps = omega arith;
    follows = refl;
    later = omega arith;
    within = omega arith;
  }

  pub end_other : at < length s → (get_or s at 0 ≡ 10 → ⊥) → (get_or s at 0 ≡ 13 → ⊥) → before_end v (drop at s) ≡ none
  unfolding before_end
  end_other h n m = rw (text_at s at h, ne_eqb (get_or s at 0) 10 n, ne_eqb (get_or s at 0) 13 m)

  end_cr : at < length s → (get_or s at 0 ≡ 10 → ⊥) → get_or s at 0 ≡ 13 → before_end v (drop at s) ≡ before_lf v (drop (at + 1) s)
  unfolding before_end
  end_cr h n e = rw (text_at s at h, ne_eqb (get_or s at 0) 10 n, eq-eqb (get_or s at 0) 13 e)

  pub end_cr_out : at < length s → (get_or s at 0 ≡ 10 → ⊥) → get_or s at 0 ≡ 13 → length s ≤ at + 1 → before_end v (drop at s) ≡ none
  unfolding before_lf
  end_cr_out h n e l = end_cr h n e ∙ rw (text_out s (at + 1) l)

  pub end_cr_other : at < length s → (get_or s at 0 ≡ 10 → ⊥) → get_or s at 0 ≡ 13 → at + 1 < length s → (get_or s (at + 1) 0 ≡ 10 → ⊥)
      → before_end v (drop at s) ≡ none
  unfolding before_lf
  end_cr_other h n e l m = end_cr h n e ∙ rw (text_at s (at + 1) l, ne_eqb (get_or s (at + 1) 0) 10 m)

  pub end_crlf : v < 2 → at < length s → (get_or s at 0 ≡ 10 → ⊥) → get_or s at 0 ≡ 13 → at + 1 < length s → get_or s (at + 1) 0 ≡ 10
      → Reads (before_end v (drop at s)) s at v (at + 1 + 1)
  unfolding before_lf
  end_crlf k h n e l m = record {
    exact = v;
    behind = drop (at + 1 + 1) s;
    reads = end_cr h n e ∙ rw (text_at s (at + 1) l, eq-eqb (get_or s (at + 1) 0) 10 m);
    caps = omega arith;
    follows = refl;
    later = omega arith;
    within = omega arith;
  }

-- ---- the last field
sooner_read : (f g : Field) (s : List ℕ) (from from' x next : ℕ) → g ≡ f → from' ≤ from → Reads f s from x next → Reads g s from' x next
sooner_read f g s from from' x next e l h = let k = h.later in record {
  exact = h.exact;
  behind = h.behind;
  reads = e ∙ h.reads;
  caps = h.caps;
  follows = h.follows;
  later = omega arith;
  within = h.within;
}

sooner : (f g : Field) (s : List ℕ) (from from' : ℕ) (r : Option Scanned) → g ≡ f → from' ≤ from → ReadAs f s from r → ReadAs g s from' r
sooner f g s from from' None e l h = e ∙ h
sooner f g s from from' (Some r) e l h = sooner_read f g s from from' r.value r.next e l h

module _ (s : List ℕ) (at : ℕ) where
  pub switch_out : length s ≤ at → switch (drop at s) ≡ none
  unfolding switch
  switch_out h = rw (text_out s at h)

  switch_0 : at < length s → get_or s at 0 ≡ 48 → switch (drop at s) ≡ before_end 0 (drop (at + 1) s)
  unfolding switch
  switch_0 h e = rw (text_at s at h, eq-eqb (get_or s at 0) 48 e)

  switch_1 : at < length s → (get_or s at 0 ≡ 48 → ⊥) → get_or s at 0 ≡ 49 → switch (drop at s) ≡ before_end 1 (drop (at + 1) s)
  unfolding switch
  switch_1 h n e = rw (text_at s at h, ne_eqb (get_or s at 0) 48 n, eq-eqb (get_or s at 0) 49 e)

  pub switch_other : at < length s → (get_or s at 0 ≡ 48 → ⊥) → (get_or s at 0 ≡ 49 → ⊥) → switch (drop at s) ≡ none
  unfolding switch
  switch_other h n m = rw (text_at s at h, ne_eqb (get_or s at 0) 48 n, ne_eqb (get_or s at 0) 49 m)

  pub switched_0 : (r : Option Scanned) → at < length s → get_or s at 0 ≡ 48 → ReadAs (before_end 0 (drop (at + 1) s)) s (at + 1) r → ReadAs (switch (drop at s)) s at r
  switched_0 r h e q = sooner (before_end 0 (drop (at + 1) s)) (switch (drop at s)) s (at + 1) at r (switch_0 h e) (omega arith) q

  pub switched_1 : (r : Option Scanned) → at < length s → (get_or s at 0 ≡ 48 → ⊥) → get_or s at 0 ≡ 49 → ReadAs (before_end 1 (drop (at + 1) s)) s (at + 1) r
      → ReadAs (switch (drop at s)) s at r
  switched_1 r h n e q = sooner (before_end 1 (drop (at + 1) s)) (switch (drop at s)) s (at + 1) at r (switch_1 h n e) (omega arith) q

-- ---- the line
pub three : (s s₂ s₃ rest : List ℕ) (a b v : ℕ) → before_comma (number s) ≡ found a s₂ → before_comma (number s₂) ≡ found b s₃ → switch s₃ ≡ found v rest
    → line_of s ≡ line a b (eqb v 1) rest
unfolding line_of
three s s₂ s₃ rest a b v e f g = rw (e, f, g)

on_by : (v w : ℕ) → v ≡ capped w → eqb w 1 ≡ eqb v 1
on_by v w e = go (dec_lt w 128)
  where
    go : Dec (w < 128) → eqb w 1 ≡ eqb v 1
    go (yes l) = let d : w ≡ v = omega arith in ap (λ (m : ℕ). eqb m 1) d
    go (no n) = ne_eqb w 1 (λ d. omega arith) ∙ sym (ne_eqb v 1 (λ d. omega arith))

module _ (s : List ℕ) (at : ℕ) where
  pub line_none : before_comma (number (drop at s)) ≡ none → line_of (drop at s) ≡ bad
  unfolding line_of
  line_none e = rw e

  module _ (x second : ℕ) (f : Reads (before_comma (number (drop at s))) s (at + 1) x second) where
    pub line_none_2 : before_comma (number (drop second s)) ≡ none → line_of (drop at s) ≡ bad
    unfolding line_of
    line_none_2 e = rw (f.reads, ← f.follows, e)

    module _ (y third : ℕ) (g : Reads (before_comma (number (drop second s))) s (second + 1) y third) where
      pub line_none_3 : switch (drop third s) ≡ none → line_of (drop at s) ≡ bad
      unfolding line_of
      line_none_3 e = rw (f.reads, ← f.follows, g.reads, ← g.follows, e)

      pub line_read : (v next : ℕ) → Reads (switch (drop third s)) s third v next → LineAt s at x y (eqb v 1) next
      line_read v next u =
          let l₁ = f.later in
          let l₂ = g.later in
          let l₃ = u.later in
          record {
            a = f.exact;
            b = g.exact;
            behind = u.behind;
            reads =
                three (drop at s) (drop second s) (drop third s) u.behind f.exact g.exact u.exact
                (f.reads ∙ ap (found f.exact) (sym f.follows)) (g.reads ∙ ap (found g.exact) (sym g.follows)) u.reads
                ∙ ap (λ (o : Bool). line f.exact g.exact o u.behind) (on_by v u.exact u.caps);
            caps = (f.caps, g.caps);
            follows = u.follows;
            later = omega arith;
            within = u.within;
          }

-- ---- the short way: a number of up to three figures
module _ (s : List ℕ) (at one : ℕ) (h : at + 4 ≤ length s) (e : true ≡ is_figure (get_or s at 0)) (z : 49 ≤ get_or s at 0)
    (o : (one ≡ get_or s at 0 - 48) × (one < 10)) where
  -- the comma ends the figures, and the number
  short_read : (value i : ℕ) → i < length s → get_or s i 0 ≡ 44 → Scanning s (at + 1) one value i
      → Reads (before_comma (number (drop at s))) s (at + 1) value (i + 1)
  short_read value i l m q =
      field_read (number (drop at s)) s (at + 1) value i
      (number_more s at true one value i (omega arith) e refl (λ w. omega arith) o
      (scan_stop s (at + 1) one value i false l (figure_low (get_or s i 0) (omega arith)) refl q)) l m

  scanned_one : Scanning s (at + 1) one one (at + 1)
  scanned_one = scan_start s (at + 1) one (omega arith) o.1

  pub short_one : get_or s (at + 1) 0 ≡ 44 → Reads (before_comma (number (drop at s))) s (at + 1) one (at + 1 + 1) × (at + 1 + 1 ≤ at + 4)
  short_one m = (short_read one (at + 1) (omega arith) m scanned_one, omega arith)

  module _ (two : ℕ) (k : true ≡ is_figure (get_or s (at + 1) 0)) (t : two ≡ capped (one * 10 + (get_or s (at + 1) 0 - 48))) where
    scanned_two : Scanning s (at + 1) one two (at + 1 + 1)
    scanned_two = scan_again s (at + 1) one one two (at + 1) true (omega arith) k refl t scanned_one

    pub short_two : get_or s (at + 1 + 1) 0 ≡ 44 → Reads (before_comma (number (drop at s))) s (at + 1) two (at + 1 + 1 + 1) × (at + 1 + 1 + 1 ≤ at + 4)
    short_two m = (short_read two (at + 1 + 1) (omega arith) m scanned_two, omega arith)

    pub short_three : (three : ℕ) → true ≡ is_figure (get_or s (at + 1 + 1) 0) → three ≡ capped (two * 10 + (get_or s (at + 1 + 1) 0 - 48)) → get_or s (at + 1 + 1 + 1) 0 ≡ 44
        → Reads (before_comma (number (drop at s))) s (at + 1) three (at + 1 + 1 + 1 + 1) × (at + 1 + 1 + 1 + 1 ≤ at + 4)
    short_three three y u m = (
      short_read three (at + 1 + 1 + 1) (omega arith) m
          (scan_again s (at + 1) one two three (at + 1 + 1) true (omega arith) y refl u scanned_two),
      omega arith,
    )

-- ---- the short way: the last field
module _ (s : List ℕ) (at : ℕ) (h : at + 3 ≤ length s) (l : 48 ≤ get_or s at 0) (m : get_or s at 0 ≤ 49) where
  -- the figure is the value
  switch_by : switch (drop at s) ≡ before_end (get_or s at 0 - 48) (drop (at + 1) s)
  switch_by = go (dec_lt (get_or s at 0) 49)
    where
      go : Dec (get_or s at 0 < 49) → switch (drop at s) ≡ before_end (get_or s at 0 - 48) (drop (at + 1) s)
      go (yes k) = let d : get_or s at 0 ≡ 48 = omega arith in switch_0 s at (omega arith) d ∙ rw d
      go (no k) = let d : get_or s at 0 ≡ 49 = omega arith in switch_1 s at (omega arith) (λ w. omega arith) d ∙ rw d

  pub short_lf : get_or s (at + 1) 0 ≡ 10 → Reads (switch (drop at s)) s at (get_or s at 0 - 48) (at + 1 + 1) × (at + 1 + 1 ≤ at + 3)
  short_lf e = (
    sooner_read (before_end (get_or s at 0 - 48) (drop (at + 1) s)) (switch (drop at s)) s (at + 1) at (get_or s at 0 - 48) (at + 1 + 1) switch_by
        (omega arith) (end_lf s (at + 1) (get_or s at 0 - 48) (omega arith) (omega arith) e),
    omega arith,
  )

  pub short_crlf : get_or s (at + 1) 0 ≡ 13 → get_or s (at + 1 + 1) 0 ≡ 10
      → Reads (switch (drop at s)) s at (get_or s at 0 - 48) (at + 1 + 1 + 1) × (at + 1 + 1 + 1 ≤ at + 3)
  short_crlf e k = (
    sooner_read (before_end (get_or s at 0 - 48) (drop (at + 1) s)) (switch (drop at s)) s (at + 1) at (get_or s at 0 - 48) (at + 1 + 1 + 1) switch_by
        (omega arith) (end_crlf s (at + 1) (get_or s at 0 - 48) (omega arith) (omega arith) (λ w. omega arith) e (omega arith) k),
    omega arith,
  )

-- ---- the line's start, past the sheet's end
pub line_out : (s : List ℕ) (at : ℕ) → length s ≤ at → line_of (drop at s) ≡ bad
unfolding line_of number before_comma
line_out s at h = rw (text_out s at h)
