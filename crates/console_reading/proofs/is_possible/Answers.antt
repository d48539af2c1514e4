-- `console_reading::is_possible` meets its contract.
use Rattle.console_reading.proofs.ReadLaws.{possible_93, possible_c1, possible_51, possible_none}
use Rattle.console_reading.proofs.is_possible.Goals as goal

pub returns-in-147 : goal.returns-in-147
returns-in-147 c = search possible_93

pub returns-in-193 : goal.returns-in-193
returns-in-193 c = search possible_c1

pub returns-in-81 : goal.returns-in-81
returns-in-81 c = search possible_51

pub returns-in_default : goal.returns-in_default
returns-in_default c = search possible_none
