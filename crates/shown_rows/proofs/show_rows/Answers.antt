-- `shown_rows::show_rows` meets its contract.
use Rattle.shown_rows.proofs.ShownLaws.{report-shown}
use Rattle.shown_rows.proofs.show_rows.Goals as goal

pub returns : goal.returns
returns c = search report-shown
