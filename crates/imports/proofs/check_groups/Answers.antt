-- `imports::check_groups` meets its contract.
use Rattle.tables.proofs.RefusalLaws.{rows}
use Rattle.imports.proofs.check_groups.Goals as goal

pub returns-then-a-lt2 : goal.returns-then-a-lt2
returns-then-a-lt2 c = search rows depth 16

pub returns-then-width-a : goal.returns-then-width-a
returns-then-width-a c = search rows depth 16

pub returns-then-b-lt2 : goal.returns-then-b-lt2
returns-then-b-lt2 c = search rows depth 16

pub returns-then-width-b : goal.returns-then-width-b
returns-then-width-b c = search rows depth 16

pub returns : goal.returns
returns c = search rows depth 16
