-- `console_reading::is_report` meets its contract.
use borrow.Author.Tests.{ne_eqb}
use Rattle.console_reading.proofs.ReadLaws.{reports_not, reports_51}
use Rattle.console_reading.proofs.is_report.Goals as goal

pub returns-then-response-eq81 : goal.returns-then-response-eq81
returns-then-response-eq81 c = search reports_51

pub returns-else-response-eq81 : goal.returns-else-response-eq81
returns-else-response-eq81 c = rw (ne_eqb _ _ c.if-response-eq81.false) (reports_not _ c.if-response-eq81.false)
