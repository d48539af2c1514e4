-- `boundary_sheets::export_c` meets its contract.
use Rattle.boundary.proofs.Crossing.{crosses}
use Rattle.boundary_sheets.proofs.export_c.Goals as goal

pub returns : goal.returns
returns c = search crosses
