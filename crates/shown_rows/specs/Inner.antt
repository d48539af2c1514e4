-- What the steps of a report leave.
use Rattle.std.specs.Prelude.{◌≡◌, List, ℕ, ◌+◌, ◌-◌, ◌*◌, ◌≤◌, ◌<◌, length, get_or}
use Rattle.permit.specs.Permission.{start_byte}
use Rattle.shown_rows.specs.ShownRows.{shown_byte}

-- byte i of document 01's rows from `row` on, as they stand at start-up, where the first of them stands at byte `at`
abbrev pub start_rows : ℕ → ℕ → ℕ → ℕ
start_rows row at i = start_byte 16 (16 * row + (i - at))

-- byte i of a response whose rows are those that the table says, from group start's on
abbrev pub shown : ℕ → List ℕ → ℕ → ℕ → ℕ
shown w t start i = shown_byte w t (16 * start + (i - 12))

-- n rows stand in a response as at start-up
pub record Started (start n : ℕ) (d : List ℕ) : Type 0 where
  pub room : 12 + 16 * n ≤ length d
  pub says : (i : ℕ) → 12 ≤ i → i < 12 + 16 * n → get_or d i 0 ≡ start_rows start 12 i
