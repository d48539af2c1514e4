-- `sheet_lines::figures_at` meets its contract.
use Rattle.sheet_lines.proofs.LineLaws.{Scanning}
use Rattle.sheet_lines.proofs.figures_at.Given as goal

abbrev pub invariant-loop-i : goal.invariant-loop-i
invariant-loop-i l = Scanning l.sheet l.at l.first l.value l.i
