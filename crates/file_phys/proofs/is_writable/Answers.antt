-- `file_phys::is_writable` meets its contract.
use Rattle.file_phys.proofs.BlockLaws.{reserved_set, reserved_clear}
use Rattle.file_phys.proofs.is_writable.Goals as goal

pub returns-then-first-gt31 : goal.returns-then-first-gt31
returns-then-first-gt31 c = search reserved_set

pub returns : goal.returns
returns c = search reserved_clear
