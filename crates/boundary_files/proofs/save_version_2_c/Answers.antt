-- `boundary_files::save_version_2_c` meets its contract.
use Rattle.boundary.proofs.Crossing.{crosses}
use Rattle.boundary_files.proofs.save_version_2_c.Goals as goal

pub returns : goal.returns
returns c = search crosses
