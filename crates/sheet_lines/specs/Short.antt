-- What the line reader's short way says of a place in the sheet.
use Rattle.std.specs.Prelude.{List, ℕ, ◌≤◌, Option, Some, None}
use Rattle.sheet_lines.specs.Line.{Field}
use Rattle.sheet_lines.specs.Places.{Reads, LineAt}
use Rattle.sheet_lines.specs.declared.Scanned.{Scanned}
use Rattle.sheet_lines.specs.declared.SheetLine.{SheetLine}

-- what is read is what the text gives, and ends by `most`; that nothing is read says nothing of the text
abbrev pub ShortAs : Field → List ℕ → ℕ → ℕ → Option Scanned → Type 0
ShortAs f s from most (Some r) = Reads f s from r.value r.next × (r.next ≤ most)
ShortAs f s from most None = Unit {0}

-- and so for a line
abbrev pub ShortLineAs : List ℕ → ℕ → Option SheetLine → Type 0
ShortLineAs s at (Some l) = LineAt s at l.a l.b l.on l.next
ShortLineAs s at None = Unit {0}
