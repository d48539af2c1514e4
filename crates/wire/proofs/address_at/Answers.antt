-- `wire::address_at` meets its contract.
use Rattle.wire.proofs.Addresses.{address_copied}
use Rattle.wire.proofs.address_at.Goals as goal

pub returns : goal.returns
returns c = address_copied _ _ _ _ c.eight_at.ensures c.from_be_bytes.ensures
