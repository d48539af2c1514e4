-- `version_2::is_block_writable` meets its contract.
use Rattle.version_2.proofs.WholeLoads.{measured_holds, slice_writable}
use Rattle.version_2.proofs.is_block_writable.Goals as goal

pub pairs_end-start-requires : goal.pairs_end-start-requires
pairs_end-start-requires c = search measured_holds

pub returns : goal.returns
returns c = search slice_writable
