-- `zone_report::check_report` meets its contract.
use Rattle.tables.proofs.RefusalLaws.{rows}
use Rattle.zone_report.proofs.check_report.Goals as goal

pub returns-then-not-has_right-clause-number : goal.returns-then-not-has_right-clause-number
returns-then-not-has_right-clause-number c = search rows depth 16

pub returns-then-request-ne8-clause-number : goal.returns-then-request-ne8-clause-number
returns-then-request-ne8-clause-number c = search rows depth 16

pub returns-then-request-ne1-clause-number : goal.returns-then-request-ne1-clause-number
returns-then-request-ne1-clause-number c = search rows depth 16

pub returns-then-request-gt127-clause-number : goal.returns-then-request-gt127-clause-number
returns-then-request-gt127-clause-number c = search rows depth 16

pub returns-clause-number : goal.returns-clause-number
returns-clause-number c = search rows depth 16
