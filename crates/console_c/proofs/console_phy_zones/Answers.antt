-- `console_c::console_phy_zones` meets its contract.
use Rattle.console_c.proofs.Clamped.{zones_c}
use Rattle.console_c.proofs.console_phy_zones.Goals as goal

pub returns : goal.returns
returns c = search zones_c
