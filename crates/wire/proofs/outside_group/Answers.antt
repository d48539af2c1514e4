-- `wire::outside_group` meets its contract.
use native.Mathlib.Omega.{arith}
use Rattle.wire.proofs.GroupLaws.{outside_none, outside_some}
use Rattle.wire.proofs.outside_group.Goals as goal

pub returns-then-b-gt127 : goal.returns-then-b-gt127
returns-then-b-gt127 c = outside_none _ (omega arith)

pub returns-else-b-gt127 : goal.returns-else-b-gt127
returns-else-b-gt127 c = outside_some _ (omega arith)
