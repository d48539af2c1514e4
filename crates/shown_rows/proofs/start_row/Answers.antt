-- `shown_rows::start_row` meets its contract.
use Rattle.shown_rows.proofs.ShownLaws.{row_filled, row_ended}
use Rattle.shown_rows.proofs.start_row.Goals as goal

pub returns-then-row-eq1 : goal.returns-then-row-eq1
returns-then-row-eq1 c = search row_filled

pub returns : goal.returns
returns c = search row_ended
