-- `sheet_lines::figure_value` meets its contract.
use Rattle.sheet_lines.proofs.LineLaws.{figure_range}
use native.Mathlib.Omega.{arith}
use borrow.Author.Rules.{rules}
use Rattle.sheet_lines.proofs.figure_value.Goals as goal

pub overflow_sub-result : goal.overflow_sub-result
overflow_sub-result c = let r = figure_range _ c.requires in omega arith

pub returns : goal.returns
returns c = let r = figure_range _ c.requires in (search rules, omega arith)
