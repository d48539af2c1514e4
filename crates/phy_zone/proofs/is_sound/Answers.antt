-- `phy_zone::is_sound` meets its contract.
use Rattle.phy_zone.proofs.PhyZoneLaws.{soundness}
use Rattle.phy_zone.proofs.is_sound.Goals as goal

pub returns-then-width-b1 : goal.returns-then-width-b1
returns-then-width-b1 c = search soundness

pub returns-then-b0-ne1 : goal.returns-then-b0-ne1
returns-then-b0-ne1 c = search soundness

pub returns : goal.returns
returns c = search soundness
