-- `phy_zone::all_sound` meets its contract: the descriptors passed are sound.
use Rattle.phy_zone.proofs.PhyZoneLaws.{judged_off, judged_again, judged_end}
use Rattle.phy_zone.proofs.all_sound.Goals as goal

pub returns-then-not-is_sound : goal.returns-then-not-is_sound
returns-then-not-is_sound c = search judged_off

pub loop-judged-preserved : goal.loop-judged-preserved
loop-judged-preserved c = search judged_again

pub returns : goal.returns
returns c = search judged_end
