-- `console_zones::write_entries` meets its contract.
use Rattle.console_zones.specs.Zones.{entry_byte}
use Rattle.console_orders.proofs.BuildLaws.{Put}
use Rattle.console_zones.proofs.write_entries.Given as goal

abbrev pub invariant-loop-i : goal.invariant-loop-i
invariant-loop-i l = Put (entry_byte l.entries) l.n 8 l.initial.request l.request l.i
