-- `rack::start_rack` meets its contract: the constant is the specification's rack.
use Rattle.rack.proofs.Records.{Stored}
use Rattle.rack.proofs.start_rack.Given as goal

abbrev pub invariant-loop-i : goal.invariant-loop-i
invariant-loop-i l = Stored l.initial.phys l.phys l.i
