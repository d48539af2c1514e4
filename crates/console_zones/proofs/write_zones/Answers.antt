-- `console_zones::write_zones` meets its contract.
use Rattle.console_zones.proofs.ZoneLaws.{zones_length, zones_written}
use Rattle.console_zones.proofs.write_zones.Goals as goal

pub returns : goal.returns
returns c = search (zones_length, zones_written)
