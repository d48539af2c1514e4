-- `rules::too_long` meets its contract.
use Rattle.rules.proofs.RuleLaws.{long_51, long_none}
use Rattle.rules.proofs.too_long.Goals as goal

pub returns-in-81 : goal.returns-in-81
returns-in-81 c = λ changes. search long_51

pub returns-in_default : goal.returns-in_default
returns-in_default c = λ changes. search long_none
