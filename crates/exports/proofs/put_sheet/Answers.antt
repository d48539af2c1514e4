-- `exports::put_sheet` meets its contract.
use borrow.Author.Rules.{rules}
use Rattle.lines.proofs.Putting.{putting_start, putting_length, putting_again}
use Rattle.exports.proofs.ExportLaws.{sheet_room, sheet_end}
use native.Mathlib.Omega.{arith}
use Rattle.exports.proofs.put_sheet.Goals as goal

pub loop-a-init : goal.loop-a-init
loop-a-init c = putting_start _ _ _ _ _ (omega arith)

pub put_row-end-requires : goal.put_row-end-requires
put_row-end-requires c = (search rules, omega arith, search sheet_room)

pub loop-a-preserved : goal.loop-a-preserved
loop-a-preserved c = search putting_again

pub shape_of-text : goal.shape_of-text
shape_of-text c = search putting_length

pub returns : goal.returns
returns c = search sheet_end
