-- What the steps of start-up leave.
use Rattle.std.specs.Prelude.{◌≡◌, cond, ◌&&◌, List, ℕ, ◌%◌, ◌≤◌, ◌<◌, leb, ltb, length, get_or}

-- the bytes from lo to below at are f's; all else is t's
pub record Between (f : ℕ → ℕ) (lo : ℕ) (t u : List ℕ) (at : ℕ) : Type 0 where
  pub from : lo ≤ at
  pub up_to : at ≤ length t
  pub sized : length u ≡ length t
  pub says : (i : ℕ) → i < length t → get_or u i 0 ≡ cond (leb lo i && ltb i at) (f i) (get_or t i 0)

-- byte i where every row of w bytes is t's row 0
abbrev pub row_again : ℕ → List ℕ → ℕ → ℕ
row_again w t i = get_or t (i % w) 0
