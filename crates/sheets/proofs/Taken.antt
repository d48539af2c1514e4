-- The reader takes exactly the lines that document 02 describes.
-- Assumes nothing.
use mathlib.Core.Path.{◌≡◌, refl, sym, ap, ◌∙◌}
use mathlib.Core.Bool.{Bool}
use mathlib.Core.List.{List}
use Prim.Native.Nat.{ℕ}
use native.Mathlib.Omega.{arith}
use Rattle.sheet_lines.specs.Line.{Line, line, bad, line_of}
use Rattle.sheet_lines.proofs.ReadBack.{line-back, line_text_lem}
use Rattle.sheets.specs.Promises.{Such, ExactlySuch, NothingElse}

-- what is read as a line is such text
taken : (s : List ℕ) (a b : ℕ) (v : Bool) (rest : List ℕ) → line_of s ≡ line a b v rest → Such s a b v rest
taken s a b v rest e = let l = line_text_lem s a b v rest e in record { end = l.end; ended = l.ended; text = l.text }

-- and such text is read as that line
read : (s : List ℕ) (a b : ℕ) (v : Bool) (rest : List ℕ) → Such s a b v rest → line_of s ≡ line a b v rest
read s a b v rest l = ap line_of l.text ∙ line-back a b v l.end rest l.ended

-- the reader takes exactly such text
pub exactly_such : ExactlySuch
exactly_such s a b v rest = (taken s a b v rest, read s a b v rest)

-- a line is not bad
line_not_bad : (a b : ℕ) (v : Bool) (rest : List ℕ) → line a b v rest ≡ bad → ⊥
line_not_bad a b v rest e = let z : ◌≡◌ {A = ℕ} 0 1 = cc in omega arith

-- and all else is bad
pub nothing_else : NothingElse
nothing_else s = (
  λ e a b v rest l. line_not_bad a b v rest (sym (read s a b v rest l) ∙ e),
  λ h. go (line_of s) refl h,
)
  where
    go : (l : Line) → line_of s ≡ l → ((a b : ℕ) (v : Bool) (rest : List ℕ) → Such s a b v rest → ⊥) → l ≡ bad
    go bad e h = refl
    go (line a b v rest) e h = absurd (h a b v rest (taken s a b v rest e))
