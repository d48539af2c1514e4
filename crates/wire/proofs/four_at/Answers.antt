-- `wire::four_at` meets its contract.
use Rattle.wire.proofs.Addresses.{four_made}
use Rattle.wire.proofs.four_at.Goals as goal

pub returns : goal.returns
returns c = four_made _ _ _ _ c.two_at.ensures c.two_at-2.ensures
