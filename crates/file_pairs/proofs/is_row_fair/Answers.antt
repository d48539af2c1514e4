-- `file_pairs::is_row_fair` meets its contract.
use native.Mathlib.Omega.{arith}
use Rattle.wire.proofs.RunLaws.{judged_off, judged_again, judged_end}
use Rattle.file_pairs.proofs.DescribedLaws.{row_start}
use Rattle.file_pairs.proofs.is_row_fair.Goals as goal

pub loop-b-init : goal.loop-b-init
loop-b-init c = row_start _ _ _ (omega arith)

pub returns-then-not-is_fair : goal.returns-then-not-is_fair
returns-then-not-is_fair c = search judged_off

pub loop-b-preserved : goal.loop-b-preserved
loop-b-preserved c = search judged_again

pub returns : goal.returns
returns c = search judged_end
