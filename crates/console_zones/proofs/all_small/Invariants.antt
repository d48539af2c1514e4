-- `console_zones::all_small` meets its contract.
use Rattle.console_zones.specs.Zones.{entry_count, small}
use Rattle.wire.specs.Runs.{every}
use Rattle.wire.proofs.RunLaws.{Judged}
use Rattle.console_zones.proofs.all_small.Given as goal

abbrev pub invariant-loop-i : goal.invariant-loop-i
invariant-loop-i l = Judged (every (small l.entries) 0 (entry_count l.entries)) (small l.entries) (entry_count l.entries) l.i
