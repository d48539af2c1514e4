-- `file_pairs::is_fair` meets its contract.
use Rattle.file_pairs.proofs.DescribedLaws.{fair_off, fair_high, fair_low}
use Rattle.file_pairs.proofs.is_fair.Goals as goal

pub returns-then-on-permitted : goal.returns-then-on-permitted
returns-then-on-permitted c = search fair_off

pub returns-then-a-ge2 : goal.returns-then-a-ge2
returns-then-a-ge2 c = search fair_high

pub returns : goal.returns
returns c = search fair_low
