-- `phy_zone::configure` meets its contract: what is left of the descriptors, done to the table as it is, is all of them, done to the table handed in.
use Rattle.phy_zone.proofs.PhyZoneLaws.{written_again, written_end}
use native.Mathlib.Omega.{arith}
use Rattle.phy_zone.proofs.configure.Goals as goal

pub loop-written-preserved : goal.loop-written-preserved
loop-written-preserved c = written_again _ _ _ _ _ _ _ (omega arith) c.write_zone.ensures c.loop-written.invariant

pub returns : goal.returns
returns c = search written_end
