-- `file_pairs::is_described` meets its contract.
use Rattle.wire.proofs.RunLaws.{judged_off, judged_again, judged_end}
use Rattle.file_pairs.proofs.DescribedLaws.{table_start}
use Rattle.file_pairs.proofs.is_described.Goals as goal

pub loop-a-init : goal.loop-a-init
loop-a-init c = search table_start

pub returns-then-not-is_row_fair : goal.returns-then-not-is_row_fair
returns-then-not-is_row_fair c = search judged_off

pub loop-a-preserved : goal.loop-a-preserved
loop-a-preserved c = search judged_again

pub returns : goal.returns
returns c = search judged_end
