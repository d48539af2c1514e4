-- A line is read as it is written, and what is read as a line is written so.
-- Assumes nothing.
use mathlib.Core.Path.{◌≡◌, refl, sym, ap, ◌∙◌}
use mathlib.Core.Bool.{Bool, true, false, cond}
use mathlib.Core.List.{List, [], ◌∷◌, ◌++◌, append_assoc}
use Prim.Native.Nat.{ℕ, zero, suc, ◌+◌, ◌-◌, ◌*◌, ◌/◌, ◌%◌, ◌≤◌, ◌<◌}
use native.Mathlib.Decide.{dec_lt}
use native.Mathlib.Omega.{arith}
use borrow.Author.Tests.{eqb-true, eqb-false, lt-ltb, le-leb, ne_eqb}
use lib.Dec.{eqb}
use Rattle.sheet_lines.specs.Line.{comma, CR, LF, figure, numeral, line_text, LineEnd, crlf, lf, is_figure, Field, found, none, figures, number, before_comma, before_lf, before_end, switch, line, bad, third_field, second_field, first_field, line_of}
use Rattle.sheet_lines.proofs.LineLaws.{figure_range, three}
use Rattle.sheet_lines.proofs.NumeralLaws.{one_figure, numeral_more}

-- a line's text, run behind run
line-flat : (a b : ℕ) (v : Bool) (end rest : List ℕ)
    → line_text a b v end ++ rest ≡ numeral a ++ comma ∷ (numeral b ++ comma ∷ figure (cond v 1 0) ∷ (end ++ rest))
unfolding line_text
line-flat a b v end rest =
    append_assoc (numeral a) (comma ∷ (numeral b ++ comma ∷ figure (cond v 1 0) ∷ end)) rest
    ∙ ap (λ (l : List ℕ). numeral a ++ comma ∷ l) (append_assoc (numeral b) (comma ∷ figure (cond v 1 0) ∷ end) rest)

-- ---- from what is written: a number
-- the byte of a number below 10 is a figure
figure_is : (d : ℕ) → d < 10 → is_figure (figure d) ≡ true
unfolding is_figure
figure_is d h = rw (le-leb 48 (48 + d) (omega arith), lt-ltb (48 + d) 58 (omega arith))

-- which counts to the number
figures_next : (v d : ℕ) (s : List ℕ) → d < 10 → figures v (figure d ∷ s) ≡ figures (v * 10 + d) s
unfolding figures
figures_next v d s h =
    let e : v * 10 + (48 + d - 48) ≡ v * 10 + d = omega arith in
    rw (figure_is d h) (ap (λ (m : ℕ). figures m s) e)

-- and, in front, starts it
number-first : (d : ℕ) (s : List ℕ) → 1 ≤ d → d < 10 → number (figure d ∷ s) ≡ figures d s
unfolding number
number-first d s p h =
    let e : 48 + d - 48 ≡ d = omega arith in
    rw (figure_is d h, ne_eqb (48 + d) 48 (λ z. omega arith)) (ap (λ (m : ℕ). figures m s) e)

-- so a numeral is read as its number, and then come the figures behind it
number-numeral : (most v : ℕ) (r : List ℕ) → v < most → 1 ≤ v → number (numeral v ++ r) ≡ figures v r
number-numeral zero v r l h = absurd (omega arith)
number-numeral (suc most) v r l h = go (dec_lt v 10) (number-numeral most (v / 10) (figure (v % 10) ∷ r))
  where
    go : Dec (v < 10) → (v / 10 < most → 1 ≤ v / 10 → number (numeral (v / 10) ++ figure (v % 10) ∷ r) ≡ figures (v / 10) (figure (v % 10) ∷ r))
        → number (numeral v ++ r) ≡ figures v r
    go (yes k) less = rw (one_figure v k) (number-first v r h k)
    go (no k) less =
        let e : v / 10 * 10 + v % 10 ≡ v = omega arith in
        ap (λ (m : ℕ). number (numeral m ++ r)) (sym e)
        ∙ ap (λ (l : List ℕ). number (l ++ r)) (numeral_more (v / 10) (v % 10) (omega arith) (omega arith))
        ∙ ap number (append_assoc (numeral (v / 10)) (figure (v % 10) ∷ []) r)
        ∙ less (omega arith) (omega arith)
        ∙ figures_next (v / 10) (v % 10) r (omega arith)
        ∙ ap (λ (m : ℕ). figures m r) e

-- a comma is no figure
figures-comma : (v : ℕ) (s : List ℕ) → figures v (comma ∷ s) ≡ found v (comma ∷ s)
unfolding figures is_figure
figures-comma v s = refl

-- 0 is a number by itself
number_nought : (s : List ℕ) → number (numeral 0 ++ s) ≡ found 0 s
unfolding number is_figure
number_nought s = rw (one_figure 0 (omega arith))

-- so a numeral and a comma are read as that number
field_back : (v : ℕ) (s : List ℕ) → before_comma (number (numeral v ++ comma ∷ s)) ≡ found v s
unfolding before_comma
field_back zero s = rw (number_nought (comma ∷ s))
field_back (suc v) s = rw (number-numeral (suc (suc v)) (suc v) (comma ∷ s) (omega arith) (omega arith), figures-comma (suc v) s)

-- ---- the last field and the line's end
-- either end ends the line
end_back : (v : ℕ) (end rest : List ℕ) → LineEnd end → before_end v (end ++ rest) ≡ found v rest
unfolding before_end before_lf
end_back v end rest crlf = refl
end_back v end rest lf = refl

-- behind 1 or 0
switch_back : (v : Bool) (end rest : List ℕ) → LineEnd end → switch (figure (cond v 1 0) ∷ (end ++ rest)) ≡ found (cond v 1 0) rest
unfolding switch
switch_back true end rest e = end_back 1 end rest e
switch_back false end rest e = end_back 0 end rest e

-- 1 is on, 0 is off
value_back : (v : Bool) → eqb (cond v 1 0) 1 ≡ v
value_back true = refl
value_back false = refl

-- ---- so a line is read as it is written
-- with either value and either end
pub line-back : (a b : ℕ) (v : Bool) (end rest : List ℕ) → LineEnd end → line_of (line_text a b v end ++ rest) ≡ line a b v rest
line-back a b v end rest e =
    ap line_of (line-flat a b v end rest)
    ∙ three _ (numeral b ++ comma ∷ figure (cond v 1 0) ∷ (end ++ rest)) (figure (cond v 1 0) ∷ (end ++ rest)) rest a b (cond v 1 0)
    (field_back a (numeral b ++ comma ∷ figure (cond v 1 0) ∷ (end ++ rest))) (field_back b (figure (cond v 1 0) ∷ (end ++ rest))) (switch_back v end rest e)
    ∙ ap (λ (o : Bool). line a b o rest) (value_back v)

-- ---- towards what is written: a number
-- what is found is found with one number
found_number : (v x : ℕ) (s rest : List ℕ) → found v s ≡ found x rest → v ≡ x
found_number v x s rest e = cc

-- and one text behind it
found_behind : (v x : ℕ) (s rest : List ℕ) → found v s ≡ found x rest → s ≡ rest
found_behind v x s rest e = cc

-- and not where nothing is
nothing_found : {A : Type 0} (x : ℕ) (rest : List ℕ) → none ≡ found x rest → A
nothing_found x rest e = let z : ◌≡◌ {A = ℕ} 0 1 = cc in absurd (omega arith)

-- the figures behind those that made v are behind v's
figures_text : (s : List ℕ) (v x : ℕ) (rest : List ℕ) → 1 ≤ v → figures v s ≡ found x rest → numeral v ++ s ≡ numeral x ++ rest
unfolding figures
figures_text [] v x rest h e = rw (found_number v x [] rest e, found_behind v x [] rest e)
figures_text (c ∷ s) v x rest h e = go (is_figure c) refl (figures_text s (v * 10 + (c - 48)) x rest) e
  where
    go : (f : Bool) → is_figure c ≡ f
        → (1 ≤ v * 10 + (c - 48) → figures (v * 10 + (c - 48)) s ≡ found x rest → numeral (v * 10 + (c - 48)) ++ s ≡ numeral x ++ rest)
        → cond f (figures (v * 10 + (c - 48)) s) (found v (c ∷ s)) ≡ found x rest → numeral v ++ c ∷ s ≡ numeral x ++ rest
    go true f more k =
        let r = figure_range c f in
        let m : 48 + (c - 48) ≡ c = omega arith in
        sym (append_assoc (numeral v) (c ∷ []) s)
        ∙ ap (λ (l : List ℕ). l ++ s) (ap (λ (n : ℕ). numeral v ++ n ∷ []) (sym m) ∙ sym (numeral_more v (c - 48) h (omega arith)))
        ∙ more (omega arith) k
    go false f more k = rw (found_number v x (c ∷ s) rest k, found_behind v x (c ∷ s) rest k)

-- so what is read as a number is its numeral
number_text : (s : List ℕ) (x : ℕ) (rest : List ℕ) → number s ≡ found x rest → s ≡ numeral x ++ rest
unfolding number
number_text [] x rest e = nothing_found x rest e
number_text (c ∷ s) x rest e = go (is_figure c) (eqb c 48) refl refl e
  where
    go : (f z : Bool) → is_figure c ≡ f → eqb c 48 ≡ z → cond f (cond z (found 0 s) (figures (c - 48) s)) none ≡ found x rest → c ∷ s ≡ numeral x ++ rest
    go false z f n k = nothing_found x rest k
    go true true f n k =
        ap (λ (m : ℕ). m ∷ s) (eqb-true c 48 n)
        ∙ ap (λ (l : List ℕ). l ++ s) (sym (one_figure 0 (omega arith)))
        ∙ rw (found_number 0 x s rest k, found_behind 0 x s rest k)
    go true false f n k =
        let r = figure_range c f in
        let q = eqb-false c 48 n in
        let m : 48 + (c - 48) ≡ c = omega arith in
        ap (λ (i : ℕ). i ∷ s) (sym m)
        ∙ ap (λ (l : List ℕ). l ++ s) (sym (one_figure (c - 48) (omega arith)))
        ∙ figures_text s (c - 48) x rest (omega arith) k

-- where a number before a comma is found, the number is, with the comma behind it
comma_text : (f : Field) (x : ℕ) (rest : List ℕ) → before_comma f ≡ found x rest → f ≡ found x (comma ∷ rest)
unfolding before_comma
comma_text none x rest e = nothing_found x rest e
comma_text (found v []) x rest e = nothing_found x rest e
comma_text (found v (c ∷ s)) x rest e = go (eqb c comma) refl e
  where
    go : (z : Bool) → eqb c comma ≡ z → cond z (found v s) none ≡ found x rest → found v (c ∷ s) ≡ found x (comma ∷ rest)
    go false n k = nothing_found x rest k
    go true n k = rw (eqb-true c comma n, found_number v x s rest k, found_behind v x s rest k)

-- so what is read as a number and a comma is its numeral and the comma
field_text : (s : List ℕ) (x : ℕ) (rest : List ℕ) → before_comma (number s) ≡ found x rest → s ≡ numeral x ++ comma ∷ rest
field_text s x rest e = number_text s x (comma ∷ rest) (comma_text (number s) x rest e)

-- ---- the line's end and the last field
-- s is what is in front, a line's end and the rest
record Ends (front s rest : List ℕ) : Type 0 where
  end : List ℕ
  ended : LineEnd end
  text : s ≡ front ++ (end ++ rest)

-- v is found where LF is in front
ends_lf : (v x : ℕ) (s rest : List ℕ) → before_lf v s ≡ found x rest → (v ≡ x) × (s ≡ LF ∷ rest)
unfolding before_lf
ends_lf v x [] rest e = nothing_found x rest e
ends_lf v x (c ∷ s) rest e = go (eqb c LF) refl e
  where
    go : (z : Bool) → eqb c LF ≡ z → cond z (found v s) none ≡ found x rest → (v ≡ x) × (c ∷ s ≡ LF ∷ rest)
    go false n k = nothing_found x rest k
    go true n k = (found_number v x s rest k, rw (eqb-true c LF n, found_behind v x s rest k))

-- and where either end is in front
end_text : (v x : ℕ) (s rest : List ℕ) → before_end v s ≡ found x rest → (v ≡ x) × Ends [] s rest
unfolding before_end
end_text v x [] rest e = nothing_found x rest e
end_text v x (c ∷ s) rest e = go (eqb c LF) (eqb c CR) refl refl e
  where
    go : (y z : Bool) → eqb c LF ≡ y → eqb c CR ≡ z → cond y (found v s) (cond z (before_lf v s) none) ≡ found x rest → (v ≡ x) × Ends [] (c ∷ s) rest
    go true z n m k =
        (found_number v x s rest k, record { end = LF ∷ []; ended = lf; text = rw (eqb-true c LF n, found_behind v x s rest k) })
    go false true n m k =
        let p = ends_lf v x s rest k in
        (p.0, record { end = CR ∷ LF ∷ []; ended = crlf; text = rw (eqb-true c CR m, p.1) })
    go false false n m k = nothing_found x rest k

-- 1 or 0 is found where it is in front, and then an end
switch_text : (s : List ℕ) (x : ℕ) (rest : List ℕ) → switch s ≡ found x rest → Ends (figure (cond (eqb x 1) 1 0) ∷ []) s rest
unfolding switch
switch_text [] x rest e = nothing_found x rest e
switch_text (c ∷ s) x rest e = go (eqb c (figure 0)) (eqb c (figure 1)) refl refl e
  where
    with_front : (v d : ℕ) → c ≡ figure d → figure d ≡ figure (cond (eqb v 1) 1 0) → (v ≡ x) × Ends [] s rest
        → Ends (figure (cond (eqb x 1) 1 0) ∷ []) (c ∷ s) rest
    with_front v d e q p = record {
      end = p.1.end;
      ended = p.1.ended;
      text = rw (p.1.text, ← p.0) (ap (λ (i : ℕ). i ∷ (p.1.end ++ rest)) (e ∙ q));
    }

    go : (y z : Bool) → eqb c (figure 0) ≡ y → eqb c (figure 1) ≡ z → cond y (before_end 0 s) (cond z (before_end 1 s) none) ≡ found x rest
        → Ends (figure (cond (eqb x 1) 1 0) ∷ []) (c ∷ s) rest
    go true z n m k = with_front 0 0 (eqb-true c (figure 0) n) refl (end_text 0 x s rest k)
    go false true n m k = with_front 1 1 (eqb-true c (figure 1) m) refl (end_text 1 x s rest k)
    go false false n m k = nothing_found x rest k

-- ---- so what is read as a line is written so
-- s starts with the text of such a line, and the rest is behind it
pub record Written (s : List ℕ) (a b : ℕ) (v : Bool) (rest : List ℕ) : Type 0 where
  pub end : List ℕ
  pub ended : LineEnd end
  pub text : s ≡ line_text a b v end ++ rest

-- bad is no line
not_line : {A : Type 0} (a b : ℕ) (v : Bool) (rest : List ℕ) → bad ≡ line a b v rest → A
not_line a b v rest e = let z : ◌≡◌ {A = ℕ} 0 1 = cc in absurd (omega arith)

-- three fields that were read make a line
fields_text : (x y n : ℕ) (s s₂ s₃ s₄ : List ℕ) → before_comma (number s) ≡ found x s₂ → before_comma (number s₂) ≡ found y s₃ → switch s₃ ≡ found n s₄
    → Written s x y (eqb n 1) s₄
fields_text x y n s s₂ s₃ s₄ e f g =
    let l = switch_text s₃ n s₄ g in
    record {
      end = l.end;
      ended = l.ended;
      text =
          field_text s x s₂ e
          ∙ ap (λ (r : List ℕ). numeral x ++ comma ∷ r) (field_text s₂ y s₃ f ∙ ap (λ (r : List ℕ). numeral y ++ comma ∷ r) l.text)
          ∙ sym (line-flat x y (eqb n 1) l.end s₄);
    }

-- two lines that are the same are written the same
same_line : (s : List ℕ) (x y a b : ℕ) (u v : Bool) (s₄ rest : List ℕ) → line x y u s₄ ≡ line a b v rest → Written s x y u s₄ → Written s a b v rest
same_line s x y a b u v s₄ rest e l =
    let ex : x ≡ a = cc in
    let ey : y ≡ b = cc in
    let ev : u ≡ v = cc in
    let es : s₄ ≡ rest = cc in
    rw (← ex, ← ey, ← ev, ← es) l

-- so what is read as a line is a line's text
pub line_text_lem : (s : List ℕ) (a b : ℕ) (v : Bool) (rest : List ℕ) → line_of s ≡ line a b v rest → Written s a b v rest
unfolding line_of
line_text_lem s a b v rest = go_1 (before_comma (number s)) refl
  where
    go_3 : (x y : ℕ) (s₂ s₃ : List ℕ) (f : Field) → before_comma (number s) ≡ found x s₂ → before_comma (number s₂) ≡ found y s₃ → switch s₃ ≡ f
        → third_field x y f ≡ line a b v rest → Written s a b v rest
    go_3 x y s₂ s₃ none e q g k = not_line a b v rest k
    go_3 x y s₂ s₃ (found n s₄) e q g k = same_line s x y a b (eqb n 1) v s₄ rest k (fields_text x y n s s₂ s₃ s₄ e q g)

    go_2 : (x : ℕ) (s₂ : List ℕ) (f : Field) → before_comma (number s) ≡ found x s₂ → before_comma (number s₂) ≡ f
        → second_field x f ≡ line a b v rest → Written s a b v rest
    go_2 x s₂ none e q k = not_line a b v rest k
    go_2 x s₂ (found y s₃) e q k = go_3 x y s₂ s₃ (switch s₃) e q refl k

    go_1 : (f : Field) → before_comma (number s) ≡ f → first_field f ≡ line a b v rest → Written s a b v rest
    go_1 none e k = not_line a b v rest k
    go_1 (found x s₂) e k = go_2 x s₂ (before_comma (number s₂)) e refl k
