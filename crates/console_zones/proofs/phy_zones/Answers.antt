-- `console_zones::phy_zones` meets its contract.
use Rattle.tables.proofs.OutcomeLaws.{refuses_by}
use Rattle.tables.proofs.RefusalLaws.{clear}
use Rattle.console_orders.proofs.Unique.{number_above}
use Rattle.console_orders.proofs.BuildLaws.{built}
use Rattle.console_zones.proofs.phy_zones.Goals as goal

pub returns-in_err-check_phy_zones : goal.returns-in_err-check_phy_zones
returns-in_err-check_phy_zones c = refuses_by _ number_above _ _ _ _ _ _ _ c.from_residual.ensures.1 c.in_err-check_phy_zones.ensures

pub write_zones-requires : goal.write_zones-requires
write_zones-requires c = search (clear, c.in_ok-check_phy_zones.ensures)

pub returns : goal.returns
returns c = search (built, c.in_ok-check_phy_zones.ensures)
