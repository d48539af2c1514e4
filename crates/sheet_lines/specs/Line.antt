-- Document 02, request 07. A sheet's lines, as bytes: "comma-separated text, three fields a line: group, group, and 1 or 0, numbers in decimal without
-- leading zeros, no header, no quoted fields."
use Rattle.std.specs.Prelude.{Bool, cond, ◌&&◌, List, [], ◌∷◌, ◌++◌, ℕ, suc, ◌+◌, ◌-◌, ◌*◌, eqb, ltb, leb}
use Rattle.lines.specs.Text.{digits}

abbrev pub comma : ℕ
comma = 44

abbrev pub CR : ℕ
CR = 13

abbrev pub LF : ℕ
LF = 10

-- the figure of a number below 10: 0 is 48
abbrev pub figure : ℕ → ℕ
figure n = 48 + n

-- "sheet over 88,011 bytes", "room under 88,011"
abbrev pub sheet_most : ℕ
sheet_most = 88011

-- ---- writing

-- "decimal without leading zeros": n has no more figures than n + 1
unfoldable pub numeral : ℕ → List ℕ
numeral n = digits (suc n) n []

-- "group, group, and 1 or 0", and what ends the line
unfoldable pub line_text : ℕ → ℕ → Bool → List ℕ → List ℕ
line_text a b v end = numeral a ++ comma ∷ (numeral b ++ comma ∷ figure (cond v 1 0) ∷ end)

-- "each line ended by CRLF or LF"
pub data LineEnd : List ℕ → Type 0 where
  crlf : LineEnd (CR ∷ LF ∷ [])
  lf : LineEnd (LF ∷ [])

-- ---- reading

-- what is read from the front of a text: a number and the text behind it, or nothing
pub data Field : Type 0 where
  found : ℕ → List ℕ → Field
  none : Field

unfoldable pub is_figure : ℕ → Bool
is_figure c = leb 48 c && ltb c 58

-- the figures at the front, behind those that made v: of any number
unfoldable pub figures : ℕ → List ℕ → Field
figures v [] = found v []
figures v (c ∷ s) = cond (is_figure c) (figures (v * 10 + (c - 48)) s) (found v (c ∷ s))

-- "numbers in decimal without leading zeros": behind a 0 no figure counts to the number
unfoldable pub number : List ℕ → Field
number [] = none
number (c ∷ s) = cond (is_figure c) (cond (eqb c (figure 0)) (found 0 s) (figures (c - 48) s)) none

-- a number is followed by a comma
unfoldable pub before_comma : Field → Field
before_comma none = none
before_comma (found v []) = none
before_comma (found v (c ∷ s)) = cond (eqb c comma) (found v s) none

-- "each line ended by CRLF or LF": v, where such an end is in front
unfoldable pub before_lf : ℕ → List ℕ → Field
before_lf v [] = none
before_lf v (c ∷ s) = cond (eqb c LF) (found v s) none

unfoldable pub before_end : ℕ → List ℕ → Field
before_end v [] = none
before_end v (c ∷ s) = cond (eqb c LF) (found v s) (cond (eqb c CR) (before_lf v s) none)

-- "and 1 or 0": the last field, and the line's end
unfoldable pub switch : List ℕ → Field
switch [] = none
switch (c ∷ s) = cond (eqb c (figure 0)) (before_end 0 s) (cond (eqb c (figure 1)) (before_end 1 s) none)

-- a line: two groups, on or off, and the text behind its end; or "text that isn't such a line or has no line end"
pub data Line : Type 0 where
  line : ℕ → ℕ → Bool → List ℕ → Line
  bad : Line

abbrev pub third_field : ℕ → ℕ → Field → Line
third_field a b none = bad
third_field a b (found v s) = line a b (eqb v 1) s

abbrev pub second_field : ℕ → Field → Line
second_field a none = bad
second_field a (found b s) = third_field a b (switch s)

abbrev pub first_field : Field → Line
first_field none = bad
first_field (found a s) = second_field a (before_comma (number s))

unfoldable pub line_of : List ℕ → Line
line_of s = first_field (before_comma (number s))
