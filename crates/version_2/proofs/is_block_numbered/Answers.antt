-- `version_2::is_block_numbered` meets its contract.
use Rattle.version_2.proofs.WholeLoads.{measured_holds, slice_thirds, slice_numbered}
use Rattle.version_2.proofs.is_block_numbered.Goals as goal

pub pairs_end-start-requires : goal.pairs_end-start-requires
pairs_end-start-requires c = search measured_holds

pub is_numbered-requires : goal.is_numbered-requires
is_numbered-requires c = search slice_thirds

pub returns : goal.returns
returns c = search slice_numbered
