-- The form of the public functions' contracts.
use Rattle.std.specs.Prelude.{◌≡◌, List, ℕ, ◌≤◌}
use Rattle.lines.specs.Text.{line}
use Rattle.lines.specs.Written.{Wrote}
use Rattle.call_words.specs.Gives.{Given}

-- an event's line at the front of the text, and the tables
pub record Lined (number : ℕ) (g : Given) (text : List ℕ) (end : ℕ) (text₁ phys₁ permissions₁ : List ℕ) : Type 0 where
  pub said : Wrote text 0 (line number g.said) end text₁
  pub short : end ≤ 64
  pub phys : phys₁ ≡ g.phys
  pub permissions : permissions₁ ≡ g.permissions
