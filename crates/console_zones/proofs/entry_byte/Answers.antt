-- `console_zones::entry_byte` meets its contract.
use Rattle.console_zones.proofs.ZoneLaws.{byte_fill, byte_group, byte_first, entry_fits}
use Rattle.console_zones.proofs.entry_byte.Goals as goal

pub returns-then-entries-e : goal.returns-then-entries-e
returns-then-entries-e c = search byte_fill

pub returns-then-i-ne0 : goal.returns-then-i-ne0
returns-then-i-ne0 c = search byte_group

pub overflow_add-result-3 : goal.overflow_add-result-3
overflow_add-result-3 c = search entry_fits

pub returns : goal.returns
returns c = search byte_first
