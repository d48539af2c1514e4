-- A word is a run of letters and digits, or any other single mark; blanks separate.
use Rattle.std.specs.Prelude.{Bool, true, false, cond, not, ◌&&◌, ◌||◌, List, [], ◌∷◌, ℕ, ◌+◌, ◌-◌, eqb, ltb, leb, length, drop, take}
use Rattle.std.specs.List.{prefix_len}
use Rattle.warden_words.specs.declared.Kind.{Kind}
use Rattle.warden_words.specs.declared.Kind.TheVariants.{Blank, Digit, LetterOrDigit, InLine}

abbrev pub between : ℕ → ℕ → ℕ → Bool
between low high b = not (ltb b low) && leb b high

abbrev pub blank : ℕ → Bool
blank b = eqb b 32 || eqb b 9

abbrev pub digit : ℕ → Bool
digit b = between 48 57 b

abbrev pub letter_or_digit : ℕ → Bool
letter_or_digit b = between 48 57 b || between 97 122 b || between 65 90 b

-- what a run is made of
abbrev pub of_kind : Kind → ℕ → Bool
of_kind Blank b = blank b
of_kind Digit b = digit b
of_kind LetterOrDigit b = letter_or_digit b
of_kind InLine b = not (eqb b 10)

-- how many bytes at the front are such
unfoldable pub run : Kind → List ℕ → ℕ
run kind bytes = prefix_len (of_kind kind) bytes

-- where the run that starts at `at` ends
abbrev pub run_end : Kind → List ℕ → ℕ → ℕ
run_end kind bytes at = at + run kind (drop at bytes)

-- a mark is a word by itself
abbrev pub word_end : List ℕ → ℕ → ℕ
word_end line at = cond (ltb at (run_end LetterOrDigit line at)) (run_end LetterOrDigit line at) (cond (ltb at (length line)) (at + 1) at)

abbrev pub word_at : List ℕ → ℕ → List ℕ
word_at line at = take (word_end line at - at) (drop at line)

-- where the next word starts
abbrev pub next_word : List ℕ → ℕ → ℕ
next_word line at = run_end Blank line (word_end line at)

unfoldable pub same : List ℕ → List ℕ → Bool
same [] [] = true
same [] (y ∷ ys) = false
same (x ∷ xs) [] = false
same (x ∷ xs) (y ∷ ys) = eqb x y && same xs ys
