-- Numbers in words: decimal, held at 255, and bytes of two hex digits.
use Rattle.std.specs.Prelude.{Bool, cond, not, ◌&&◌, List, [], ◌∷◌, ℕ, ◌+◌, ◌-◌, ◌*◌, eqb, ltb, length, get_or, Option, None, Some}
use Rattle.warden_words.specs.Words.{run, between, word_end, word_at, next_word}
use Rattle.warden_words.specs.declared.Kind.TheVariants.{Digit}
use Rattle.warden_words.specs.declared.Read.{Read}

-- digits, and at least one
abbrev pub numeric : List ℕ → Bool
numeric word = not (eqb (length word) 0) && eqb (0 + run Digit word) (length word)

-- the decimal value of digits that stand behind a number
unfoldable pub decimal_from : ℕ → List ℕ → ℕ
decimal_from n [] = n
decimal_from n (d ∷ ds) = decimal_from (10 * n + (d - 48)) ds

abbrev pub at_most : ℕ → ℕ → ℕ
at_most most n = cond (ltb n most) n most

-- a number of any length: from 255 on it is 255
abbrev pub held : List ℕ → ℕ
held word = at_most 255 (decimal_from 0 word)

abbrev pub hex_value : ℕ → Option ℕ
hex_value b =
    cond (between 48 57 b) (Some (b - 48))
    (cond (between 97 102 b) (Some (b - 87))
    (cond (between 65 70 b) (Some (b - 55))
    None))

-- the byte of two hex digits
abbrev pub hex_byte : Option ℕ → Option ℕ → ℕ → Option Read
hex_byte (Some high) (Some low) next = Some (record { value = 16 * high + low; next = next })
hex_byte (Some high) None next = None
hex_byte None low next = None

-- the byte that the word is, if it is one, and where the next word starts
abbrev pub hex_at : List ℕ → ℕ → Option Read
hex_at line at = cond (eqb (word_end line at - at) 2) (hex_byte (hex_value (get_or line at 0)) (hex_value (get_or line (at + 1) 0)) (next_word line at)) None

-- the number that the word is, if it is one, and where the next word starts
abbrev pub number_at : List ℕ → ℕ → Option Read
number_at line at = cond (numeric (word_at line at)) (Some (record { value = held (word_at line at); next = next_word line at })) None
