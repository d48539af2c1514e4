-- `zone_permission::check_operation` meets its contract.
use Rattle.zone_permission.proofs.PermissionLaws.{picks_single, picks_batch, picks_none}
use Rattle.zone_permission.proofs.check_operation.Goals as goal

pub returns-in-8-clause-number : goal.returns-in-8-clause-number
returns-in-8-clause-number c = search picks_single

pub returns-in-9-clause-number : goal.returns-in-9-clause-number
returns-in-9-clause-number c = search picks_batch

pub returns-in-0-to-7-clause-number : goal.returns-in-0-to-7-clause-number
returns-in-0-to-7-clause-number c = search picks_none
