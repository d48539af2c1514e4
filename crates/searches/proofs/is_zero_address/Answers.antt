-- `searches::is_zero_address` meets its contract.
use Rattle.searches.proofs.SearchLaws.{zeros-start, zeros_again, zeros_not, zeros_end}
use Rattle.searches.proofs.is_zero_address.Goals as goal

pub loop-k-init : goal.loop-k-init
loop-k-init c = search zeros-start

pub returns-then-frame-k-ne0 : goal.returns-then-frame-k-ne0
returns-then-frame-k-ne0 c = search zeros_not

pub loop-k-preserved : goal.loop-k-preserved
loop-k-preserved c = search zeros_again

pub returns : goal.returns
returns c = search zeros_end
