-- `exports::put_row` meets its contract.
use borrow.Author.Rules.{rules}
use Rattle.lines.proofs.Putting.{putting_start, putting_length, putting_again}
use Rattle.exports.proofs.ExportLaws.{row_room, row_end}
use native.Mathlib.Omega.{arith}
use Rattle.exports.proofs.put_row.Goals as goal

pub loop-b-init : goal.loop-b-init
loop-b-init c = putting_start _ _ _ _ _ (omega arith)

pub put_pair-end-requires : goal.put_pair-end-requires
put_pair-end-requires c = (search rules, omega arith, omega arith, search row_room)

pub loop-b-preserved : goal.loop-b-preserved
loop-b-preserved c = search putting_again

pub shape_of-text : goal.shape_of-text
shape_of-text c = search putting_length

pub returns : goal.returns
returns c = search row_end
