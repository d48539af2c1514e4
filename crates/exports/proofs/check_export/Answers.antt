-- `exports::check_export` meets its contract.
use Rattle.tables.proofs.RefusalLaws.{rows}
use Rattle.exports.proofs.check_export.Goals as goal

pub returns-then-not-permissions_sized : goal.returns-then-not-permissions_sized
returns-then-not-permissions_sized c = search rows depth 16

pub returns-then-room-lt-SHEET_MOST : goal.returns-then-room-lt-SHEET_MOST
returns-then-room-lt-SHEET_MOST c = search rows depth 16

pub returns : goal.returns
returns c = search rows depth 16
