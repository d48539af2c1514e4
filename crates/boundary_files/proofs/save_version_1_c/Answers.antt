-- `boundary_files::save_version_1_c` meets its contract.
use Rattle.boundary.proofs.Crossing.{crosses}
use Rattle.boundary_files.proofs.save_version_1_c.Goals as goal

pub returns : goal.returns
returns c = search crosses
