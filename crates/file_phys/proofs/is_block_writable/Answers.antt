-- `file_phys::is_block_writable` meets its contract.
use Rattle.wire.proofs.RunLaws.{judged_off, judged_again, judged_end}
use Rattle.file_phys.proofs.BlockLaws.{entries-start, entry_judged}
use Rattle.file_phys.proofs.is_block_writable.Goals as goal

pub loop-i-init : goal.loop-i-init
loop-i-init c = search entries-start

pub returns-then-not-is_writable : goal.returns-then-not-is_writable
returns-then-not-is_writable c = search (judged_off, entry_judged)

pub loop-i-preserved : goal.loop-i-preserved
loop-i-preserved c = search (judged_again, entry_judged)

pub returns : goal.returns
returns c = search judged_end
