-- `permit::permissions_sized` meets its contract.
use Rattle.permit.proofs.permissions_sized.Goals as goal

pub returns : goal.returns
returns c = rw c.table_size.ensures
