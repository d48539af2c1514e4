-- `version_1::check_save` meets its contract.
use Rattle.version_1.proofs.Saves.{table_asked}
use Rattle.tables.proofs.RefusalLaws.{rows}
use Rattle.version_1.proofs.check_save.Goals as goal

pub returns-then-not-permissions_sized : goal.returns-then-not-permissions_sized
returns-then-not-permissions_sized c = search rows depth 16

pub returns-then-room-lt-FILE_ROOM : goal.returns-then-room-lt-FILE_ROOM
returns-then-room-lt-FILE_ROOM c = search rows depth 16

pub is_described-requires : goal.is_described-requires
is_described-requires c = search table_asked

pub returns-then-not-is_described : goal.returns-then-not-is_described
returns-then-not-is_described c = search rows depth 16

pub returns : goal.returns
returns c = search rows depth 16
