-- `phy_zone::configure` meets its contract: what is left of the descriptors, done to the table as it is, is all of them, done to the table handed in.
use Rattle.phy_zone.proofs.PhyZoneLaws.{Written}
use Rattle.phy_zone.proofs.configure.Given as goal

abbrev pub invariant-loop-written : goal.invariant-loop-written
invariant-loop-written l = Written l.initial.phys l.request l.start l.k l.phys l.written
