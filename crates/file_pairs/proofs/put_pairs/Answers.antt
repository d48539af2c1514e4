-- `file_pairs::put_pairs` meets its contract.
use borrow.Author.Rules.{rules}
use Rattle.lines.proofs.Putting.{putting_start, putting_length, putting_again}
use Rattle.file_pairs.proofs.Writes.{pairs_room, pairs_end}
use native.Mathlib.Omega.{arith}
use Rattle.file_pairs.proofs.put_pairs.Goals as goal

pub loop-a-init : goal.loop-a-init
loop-a-init c = putting_start _ _ _ _ _ (omega arith)

pub put_row-end-requires : goal.put_row-end-requires
put_row-end-requires c = (search rules, omega arith, search pairs_room)

pub loop-a-preserved : goal.loop-a-preserved
loop-a-preserved c = search putting_again

pub shape_of-file : goal.shape_of-file
shape_of-file c = search putting_length

pub returns : goal.returns
returns c = search pairs_end
