-- `lines::decimal_digits` meets its contract.
use Rattle.lines.proofs.Lines.{Spelt}
use Rattle.lines.proofs.decimal_digits.Given as goal

abbrev pub invariant-loop-rest : goal.invariant-loop-rest
invariant-loop-rest l = Spelt l.n l.figures l.start l.rest

abbrev pub decreases-loop-rest : goal.decreases-loop-rest
decreases-loop-rest l = l.rest
