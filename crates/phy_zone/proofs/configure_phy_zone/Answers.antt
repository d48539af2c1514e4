-- `phy_zone::configure_phy_zone` meets its contract.
use Rattle.requests.proofs.RequestLaws.{leaves_down}
use Rattle.phy_zone.specs.PhyZone.{phy_zone_reply}
use Rattle.phy_zone.proofs.PhyZoneLaws.{accepted_fits, configure_done}
use Rattle.phy_zone.proofs.configure_phy_zone.Goals as goal

pub returns-in-Err : goal.returns-in-Err
unfolding phy_zone_reply
returns-in-Err c = leaves_down _ _ _ _ _ _ _ _ _ _ _ _ _ _ c.in-Err.ensures.number c.in-Err.ensures.turned_down (c.turn_down.ensures _ _)

pub carry_out-requires : goal.carry_out-requires
carry_out-requires c = search (accepted_fits, c.in_default.ensures.number)

pub returns : goal.returns
returns c = search (configure_done, c.in_default.ensures.number)
