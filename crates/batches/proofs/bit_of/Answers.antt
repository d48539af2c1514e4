-- `batches::bit_of` meets its contract.
use Rattle.wire.specs.Bits.{bit}
use borrow.Author.Rules.{rules}
use Rattle.batches.proofs.bit_of.Goals as goal

pub returns : goal.returns
unfolding bit
returns c = search rules
