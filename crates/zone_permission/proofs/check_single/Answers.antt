-- `zone_permission::check_single` meets its contract.
use Rattle.tables.proofs.RefusalLaws.{rows}
use Rattle.zone_permission.proofs.check_single.Goals as goal

pub returns-then-request-ne12-clause-number : goal.returns-then-request-ne12-clause-number
returns-then-request-ne12-clause-number c = search rows depth 16

pub returns-then-request-lt2-clause-number : goal.returns-then-request-lt2-clause-number
returns-then-request-lt2-clause-number c = search rows depth 16

pub returns-then-request-lt2-2-clause-number : goal.returns-then-request-lt2-2-clause-number
returns-then-request-lt2-2-clause-number c = search rows depth 16

pub returns-then-width-request-clause-number : goal.returns-then-width-request-clause-number
returns-then-width-request-clause-number c = search rows depth 16

pub returns-then-width-request-2-clause-number : goal.returns-then-width-request-2-clause-number
returns-then-width-request-2-clause-number c = search rows depth 16

pub returns-clause-number : goal.returns-clause-number
returns-clause-number c = search rows depth 16
