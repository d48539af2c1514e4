-- `permit::repeat_row` meets its contract: the rows below `at` are row 0.
use Rattle.permit.specs.Start.{Between, row_again}
use Rattle.permit.proofs.repeat_row.Given as goal

abbrev pub invariant-loop-at : goal.invariant-loop-at
invariant-loop-at l = Between (row_again l.width l.initial.permissions) l.width l.initial.permissions l.permissions l.at
