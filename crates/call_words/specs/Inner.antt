-- The form of the functions' contracts.
use Rattle.std.specs.Prelude.{◌≡◌, List, ℕ, ◌+◌, ◌≤◌}
use Rattle.lines.specs.Written.{Wrote}
use Rattle.call_words.specs.Gives.{Given}

-- what an event gives is in the text from `at` on, short enough for a line, and in the tables
pub record Gave (g : Given) (text : List ℕ) (at end : ℕ) (text₁ phys₁ permissions₁ : List ℕ) : Type 0 where
  pub said : Wrote text at g.said end text₁
  pub short : end ≤ at + 31
  pub phys : phys₁ ≡ g.phys
  pub permissions : permissions₁ ≡ g.permissions
