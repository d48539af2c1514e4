-- `phy_zone::all_sound` meets its contract: the descriptors passed are sound.
use Rattle.phy_zone.proofs.PhyZoneLaws.{Judged}
use Rattle.phy_zone.proofs.all_sound.Given as goal

abbrev pub invariant-loop-judged : goal.invariant-loop-judged
invariant-loop-judged l = Judged l.width l.request l.k l.judged
