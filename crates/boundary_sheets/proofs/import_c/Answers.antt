-- `boundary_sheets::import_c` meets its contract.
use Rattle.boundary_sheets.proofs.SheetsCLaws.{import_wide, import_fits}
use Rattle.boundary_sheets.proofs.import_c.Goals as goal

pub returns-then-carried-gt255 : goal.returns-then-carried-gt255
returns-then-carried-gt255 c = search import_wide

pub returns : goal.returns
returns c = search import_fits
