-- `console_zones::all_fair` meets its contract.
use Rattle.console_zones.specs.Zones.{entry_count, fair}
use Rattle.wire.specs.Runs.{every}
use Rattle.wire.proofs.RunLaws.{Judged}
use Rattle.console_zones.proofs.all_fair.Given as goal

abbrev pub invariant-loop-i : goal.invariant-loop-i
invariant-loop-i l = Judged (every (fair l.entries) 0 (entry_count l.entries)) (fair l.entries) (entry_count l.entries) l.i
