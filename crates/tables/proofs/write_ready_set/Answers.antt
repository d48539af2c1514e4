-- `tables::write_ready_set` meets its contract.
use Rattle.wire.specs.PhySet.{set_of}
use Rattle.wire.proofs.Loops.{fill_start, fill_again, fill_end}
use Rattle.tables.specs.Phys.{ready_set}
use Rattle.tables.proofs.write_ready_set.Goals as goal

pub loop-k-init : goal.loop-k-init
loop-k-init c = search fill_start

pub loop-k-preserved : goal.loop-k-preserved
loop-k-preserved c = search fill_again

pub returns : goal.returns
unfolding ready_set set_of
returns c = search fill_end
