-- `wire::phys_in` meets its contract: what is counted and what is left to count are all.
use native.Mathlib.Omega.{arith}
use Rattle.wire.proofs.Sets.{count_again, count_end}
use Rattle.wire.proofs.phys_in.Goals as goal

pub loop-byte-preserved : goal.loop-byte-preserved
loop-byte-preserved c =
    count_again _ _ _ c.requires c.loop-byte-test.true (omega (arith, c.type_inv.set c.loop-byte.byte-index)) c.loop-byte.invariant

pub returns : goal.returns
returns c = search count_end
