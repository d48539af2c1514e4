-- `phy_zone::check_phy_zone` meets its contract.
use Rattle.tables.proofs.RefusalLaws.{rows}
use Rattle.phy_zone.proofs.check_phy_zone.Goals as goal

pub returns-then-not-has_right-clause-number : goal.returns-then-not-has_right-clause-number
returns-then-not-has_right-clause-number c = search rows depth 16

pub returns-then-request-lt8-clause-number : goal.returns-then-request-lt8-clause-number
returns-then-request-lt8-clause-number c = search rows depth 16

pub returns-then-request-clause-number : goal.returns-then-request-clause-number
returns-then-request-clause-number c = search rows depth 16

pub returns-then-request-k-clause-number : goal.returns-then-request-k-clause-number
returns-then-request-k-clause-number c = search rows depth 16

pub returns-then-phys-request-clause-number : goal.returns-then-phys-request-clause-number
returns-then-phys-request-clause-number c = search rows depth 16

pub returns-then-not-all_sound-clause-number : goal.returns-then-not-all_sound-clause-number
returns-then-not-all_sound-clause-number c = search rows depth 16

pub returns-clause-number : goal.returns-clause-number
returns-clause-number c = search rows depth 16
