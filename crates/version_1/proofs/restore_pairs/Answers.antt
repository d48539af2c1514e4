-- `version_1::restore_pairs` meets its contract.
use Rattle.version_1.proofs.Loads.{slice_even, slice_valid, slice_done, started}
use Rattle.version_1.proofs.restore_pairs.Goals as goal

pub switch_on-requires : goal.switch_on-requires
switch_on-requires c = search (started, slice_even, slice_valid)

pub returns : goal.returns
returns c = search slice_done
