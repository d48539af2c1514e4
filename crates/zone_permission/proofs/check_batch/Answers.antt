-- `zone_permission::check_batch` meets its contract.
use Rattle.tables.proofs.RefusalLaws.{rows, held_above, held-at_most}
use Rattle.zone_permission.proofs.check_batch.Goals as goal

pub returns-then-request-count-clause-number : goal.returns-then-request-count-clause-number
returns-then-request-count-clause-number c = search rows depth 16

pub returns-then-start-count-gt128-clause-number : goal.returns-then-start-count-gt128-clause-number
returns-then-start-count-gt128-clause-number c = search rows depth 16

pub returns-then-starts_low-clause-number : goal.returns-then-starts_low-clause-number
returns-then-starts_low-clause-number c = search rows depth 16

pub returns-then-width-rows_end-clause-number : goal.returns-then-width-rows_end-clause-number
returns-then-width-rows_end-clause-number c = search (rows, held_above) depth 16

pub returns-clause-number : goal.returns-clause-number
returns-clause-number c = search (rows, held-at_most) depth 16
