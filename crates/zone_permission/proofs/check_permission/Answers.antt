-- `zone_permission::check_permission` meets its contract.
use Rattle.tables.proofs.RefusalLaws.{rows}
use Rattle.zone_permission.proofs.PermissionLaws.{then_operation}
use Rattle.zone_permission.proofs.check_permission.Goals as goal

pub returns-then-not-has_right-clause-number : goal.returns-then-not-has_right-clause-number
returns-then-not-has_right-clause-number c = search rows depth 16

pub returns-then-request-clause-number : goal.returns-then-request-clause-number
returns-then-request-clause-number c = search rows depth 16

pub returns-then-request-lt12-clause-number : goal.returns-then-request-lt12-clause-number
returns-then-request-lt12-clause-number c = search rows depth 16

pub returns-clause-number : goal.returns-clause-number
returns-clause-number c = search then_operation
