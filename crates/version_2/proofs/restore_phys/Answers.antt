-- `version_2::restore_phys` meets its contract.
use Rattle.version_2.proofs.WholeLoads.{measured_holds, slice_thirds, slice_below, slice_done}
use Rattle.version_2.proofs.restore_phys.Goals as goal

pub pairs_end-start-requires : goal.pairs_end-start-requires
pairs_end-start-requires c = search measured_holds

pub write_zones-requires : goal.write_zones-requires
write_zones-requires c = search (slice_thirds, slice_below)

pub returns : goal.returns
returns c = search slice_done
