-- What the line reader's steps say of a place in the sheet.
use Rattle.std.specs.Prelude.{◌≡◌, Bool, List, ℕ, ◌≤◌, ◌<◌, min, length, drop, Option, Some, None}
use Rattle.sheet_lines.specs.Line.{Field, found, none, line, bad, line_of}
use Rattle.sheet_lines.specs.declared.Scanned.{Scanned}
use Rattle.sheet_lines.specs.declared.SheetLine.{SheetLine}

-- a number as the code keeps it: any above 127 is too large on every shelf, and 128 stands for it
abbrev pub capped : ℕ → ℕ
capped v = min v 128

-- f is what a text gives; the code gives x, which stands for its number, and the place `next`, from `from` on, where the text behind it starts
pub record Reads (f : Field) (s : List ℕ) (from x next : ℕ) : Type 0 where
  pub exact : ℕ
  pub behind : List ℕ
  pub reads : f ≡ found exact behind
  pub caps : x ≡ capped exact
  pub follows : drop next s ≡ behind
  pub later : from ≤ next
  pub within : next ≤ length s

abbrev pub ReadAs : Field → List ℕ → ℕ → Option Scanned → Type 0
ReadAs f s from (Some r) = Reads f s from r.value r.next
ReadAs f s from None = f ≡ none

-- the line at `at`
pub record LineAt (s : List ℕ) (at x y : ℕ) (v : Bool) (next : ℕ) : Type 0 where
  pub a : ℕ
  pub b : ℕ
  pub behind : List ℕ
  pub reads : line_of (drop at s) ≡ line a b v behind
  pub caps : (x ≡ capped a) × (y ≡ capped b)
  pub follows : drop next s ≡ behind
  pub later : at < next
  pub within : next ≤ length s

abbrev pub LineAs : List ℕ → ℕ → Option SheetLine → Type 0
LineAs s at (Some l) = LineAt s at l.a l.b l.on l.next
LineAs s at None = line_of (drop at s) ≡ bad
