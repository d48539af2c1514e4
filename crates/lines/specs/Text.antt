-- Lines of text, as bytes: "decimal but for the result's two hex digits".
use Rattle.std.specs.Prelude.{cond, List, [], ◌∷◌, ◌++◌, ℕ, zero, suc, ◌+◌, ◌/◌, ◌%◌, ltb}

-- the decimal digits of n, of which there are at most `most`, before what follows
unfoldable pub digits : ℕ → ℕ → List ℕ → List ℕ
digits zero n rest = rest
digits (suc most) n rest = cond (ltb n 10) ((48 + n) ∷ rest) (digits most (n / 10) ((48 + n % 10) ∷ rest))

-- a number of 64 bits has at most twenty
unfoldable pub decimal : ℕ → List ℕ
decimal n = digits 20 n []

-- 0 to 9, a to f: a result's digits
abbrev pub hex_digit : ℕ → ℕ
hex_digit n = cond (ltb n 10) (48 + n) (87 + n)

abbrev pub hex : ℕ → List ℕ
hex n = hex_digit (n / 16 % 16) ∷ hex_digit (n % 16) ∷ []

abbrev pub space : ℕ
space = 32

-- a line: the event's number, a space, the words, and the line's end
unfoldable pub line : ℕ → List ℕ → List ℕ
line number words = decimal number ++ space ∷ words ++ 10 ∷ []
