-- `console_rows::write_rows` meets its contract.
use Rattle.console_rows.specs.Batches.{packed}
use Rattle.console_orders.proofs.BuildLaws.{Put}
use Rattle.console_rows.proofs.write_rows.Given as goal

abbrev pub invariant-loop-i : goal.invariant-loop-i
invariant-loop-i l = Put (packed l.choices) l.n 12 l.initial.request l.request l.i
