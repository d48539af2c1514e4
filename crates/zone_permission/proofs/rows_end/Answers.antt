-- `zone_permission::rows_end` meets its contract.
use Rattle.zone_permission.proofs.PermissionLaws.{ends_none, ends_some}
use Rattle.zone_permission.proofs.rows_end.Goals as goal

pub returns-then-count-eq0 : goal.returns-then-count-eq0
returns-then-count-eq0 c = search ends_none

pub returns : goal.returns
returns c = search ends_some
