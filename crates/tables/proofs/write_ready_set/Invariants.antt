-- `tables::write_ready_set` meets its contract.
use Rattle.wire.specs.PhySet.{set_byte}
use Rattle.wire.proofs.Loops.{Filled}
use Rattle.tables.specs.Phys.{ready}
use Rattle.tables.proofs.write_ready_set.Given as goal

abbrev pub invariant-loop-k : goal.invariant-loop-k
invariant-loop-k l = Filled (set_byte (ready l.phys)) 16 l.initial.set l.set l.k
