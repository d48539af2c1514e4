-- `told_set::is_told` meets its contract.
use Rattle.told_set.proofs.Chains.{judged_barred, judged_zero, judged_own, judged_chain}
use Rattle.told_set.proofs.is_told.Goals as goal

pub returns-then-not-is_permitted : goal.returns-then-not-is_permitted
returns-then-not-is_permitted c = search judged_barred

pub returns-then-address-eq0 : goal.returns-then-address-eq0
returns-then-address-eq0 c = search judged_zero

pub returns-then-address-own : goal.returns-then-address-own
returns-then-address-own c = search judged_own

pub returns : goal.returns
returns c = search judged_chain
