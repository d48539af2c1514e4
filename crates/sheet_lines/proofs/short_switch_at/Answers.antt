-- `sheet_lines::short_switch_at` meets its contract.
use native.Mathlib.Omega.{arith}
use Rattle.sheet_lines.proofs.LineLaws.{short_lf, short_crlf}
use Rattle.sheet_lines.proofs.short_switch_at.Goals as goal

pub returns-then-sheet-after-eq-LF : goal.returns-then-sheet-after-eq-LF
returns-then-sheet-after-eq-LF c = short_lf _ _ c.requires (omega arith) (omega arith) (omega arith)

pub returns : goal.returns
returns c = short_crlf _ _ c.requires (omega arith) (omega arith) (omega arith) (omega arith)
