-- `zonefile_text::load_text` meets its contract.
use Rattle.zonefile_text.proofs.ZonefileLaws.{long_file_said, file_said_lem}
use Rattle.zonefile_text.proofs.load_text.Goals as goal

pub returns-then-file-gt-FILE_ROOM : goal.returns-then-file-gt-FILE_ROOM
returns-then-file-gt-FILE_ROOM c = search long_file_said

pub returns : goal.returns
returns c = search file_said_lem
