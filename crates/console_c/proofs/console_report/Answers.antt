-- `console_c::console_report` meets its contract.
use Rattle.console_c.proofs.Clamped.{report_c}
use Rattle.console_c.proofs.console_report.Goals as goal

pub returns : goal.returns
returns c = search report_c
