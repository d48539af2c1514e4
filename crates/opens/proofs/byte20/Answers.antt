-- `opens::byte20` meets its contract.
use Rattle.opens.proofs.OpenSteps.{cleared, carried, managed, unmanaged, carried_fits, managed_fits}
use Rattle.opens.proofs.byte20.Goals as goal

pub returns-then-not-is_participating : goal.returns-then-not-is_participating
returns-then-not-is_participating c = search cleared

pub overflow_add-result : goal.overflow_add-result
overflow_add-result c = let b = c.type_inv.frame 20 in search carried_fits

pub returns-then-is_participating : goal.returns-then-is_participating
returns-then-is_participating c = search carried

pub overflow_add-result-then-phy_priority-gt0 : goal.overflow_add-result-then-phy_priority-gt0
overflow_add-result-then-phy_priority-gt0 c = search managed_fits

pub returns-then-phy_priority-gt0 : goal.returns-then-phy_priority-gt0
returns-then-phy_priority-gt0 c = search managed

pub returns : goal.returns
returns c = search unmanaged
