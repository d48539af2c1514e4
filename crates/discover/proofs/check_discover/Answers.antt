-- `discover::check_discover` meets its contract.
use Rattle.tables.proofs.RefusalLaws.{rows, held_at_least, held_below}
use Rattle.discover.proofs.check_discover.Goals as goal

pub returns-then-request-ne12-clause-number : goal.returns-then-request-ne12-clause-number
returns-then-request-ne12-clause-number c = search rows depth 16

pub returns-then-not-length_said-clause-number : goal.returns-then-not-length_said-clause-number
returns-then-not-length_said-clause-number c = search rows depth 16

pub returns-then-phys-index-clause-number : goal.returns-then-phys-index-clause-number
returns-then-phys-index-clause-number c = search (rows, held_at_least) depth 16

pub returns-then-not-is_shown-clause-number : goal.returns-then-not-is_shown-clause-number
returns-then-not-is_shown-clause-number c = search (rows, held_below) depth 16

pub returns-clause-number : goal.returns-clause-number
returns-clause-number c = search (rows, held_below) depth 16
