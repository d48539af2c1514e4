-- What the steps of an export leave.
use Rattle.std.specs.Prelude.{◌≡◌, List, [], ◌∷◌, ◌++◌, ℕ, ◌+◌, ◌/◌, ◌%◌, length, take}
use Rattle.lines.specs.Written.{written}
use Rattle.sheet_lines.specs.Line.{comma, numeral}

-- a number's four bytes, lowest first
abbrev pub bytes_of : ℕ → List ℕ
bytes_of x = (x % 256) ∷ (x / 256 % 256) ∷ (x / 65536 % 256) ∷ (x / 16777216 % 256) ∷ []

-- four bytes of which the first `count` are n and its comma
pub record FieldOf (n bytes count : ℕ) : Type 0 where
  pub begins : take (length (numeral n) + 1) (bytes_of bytes) ≡ numeral n ++ (comma ∷ [])
  pub counts : count ≡ length (numeral n) + 1

-- a text after four bytes were put into it from `at` on, of which the first are n and its comma, and where these end
pub record FieldPut (n : ℕ) (text : List ℕ) (at end : ℕ) (text₁ : List ℕ) : Type 0 where
  pub bytes : List ℕ
  pub four : length bytes ≡ 4
  pub begins : take (length (numeral n) + 1) bytes ≡ numeral n ++ (comma ∷ [])
  pub put : text₁ ≡ written text at bytes
  pub ends : end ≡ at + (length (numeral n) + 1)
