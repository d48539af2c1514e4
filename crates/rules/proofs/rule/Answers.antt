-- `rules::rule` meets its contract.
use Rattle.rules.proofs.RuleLaws.{leaves_93, leaves_c1, leaves_51, leaves_10, leaves_none}
use Rattle.rules.proofs.rule.Goals as goal

pub returns-in-147 : goal.returns-in-147
returns-in-147 c = search leaves_93

pub returns-in-193 : goal.returns-in-193
returns-in-193 c = search leaves_c1

pub returns-in-81 : goal.returns-in-81
returns-in-81 c = search leaves_51

pub returns-in-16 : goal.returns-in-16
returns-in-16 c = search leaves_10

pub returns-in_default : goal.returns-in_default
returns-in_default c = search (leaves_none, c.turn_down.ensures)
