-- `version_2::check_save` meets its contract.
use Rattle.tables.proofs.RefusalLaws.{rows}
use Rattle.version_1.proofs.Saves.{table_asked}
use borrow.Author.Rules.{rules}
use Rattle.version_2.proofs.check_save.Goals as goal

pub returns-then-not-phys_sized : goal.returns-then-not-phys_sized
returns-then-not-phys_sized c = search rows depth 16

pub returns-then-not-permissions_sized : goal.returns-then-not-permissions_sized
returns-then-not-permissions_sized c = search rows depth 16

pub returns-then-room-lt-FILE_ROOM : goal.returns-then-room-lt-FILE_ROOM
returns-then-room-lt-FILE_ROOM c = search rows depth 16

pub is_described-requires : goal.is_described-requires
is_described-requires c = table_asked _ _ _ (search rules) c.permissions_sized.ensures (search rules)

pub returns-then-not-is_described : goal.returns-then-not-is_described
returns-then-not-is_described c = search rows depth 16

pub returns-then-not-are_phys_writable : goal.returns-then-not-are_phys_writable
returns-then-not-are_phys_writable c = search rows depth 16

pub returns : goal.returns
returns c = search rows depth 16
