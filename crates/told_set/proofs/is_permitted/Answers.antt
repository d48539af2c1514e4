-- `told_set::is_permitted` meets its contract.
use Rattle.told_set.proofs.ToldLaws.{permitted_off, permitted_on}
use Rattle.told_set.proofs.is_permitted.Goals as goal

pub returns-then-not-permitted : goal.returns-then-not-permitted
returns-then-not-permitted c = search permitted_off

pub returns : goal.returns
returns c = search permitted_on
