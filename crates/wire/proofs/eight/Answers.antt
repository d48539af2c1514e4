-- `wire::eight` meets its contract.
use Rattle.wire.proofs.Addresses.{eight_bytes}
use Rattle.wire.proofs.eight.Goals as goal

pub returns : goal.returns
returns c = search eight_bytes
