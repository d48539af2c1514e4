-- `zonefile_text::save_text` meets its contract.
use Rattle.zonefile_text.proofs.ZonefileLaws.{long_sheet_said, sheet_said_lem}
use Rattle.zonefile_text.proofs.save_text.Goals as goal

pub returns-then-sheet-gt-SHEET_MOST : goal.returns-then-sheet-gt-SHEET_MOST
returns-then-sheet-gt-SHEET_MOST c = search long_sheet_said

pub returns : goal.returns
returns c = search sheet_said_lem
