-- `console_orders::single` meets its contract.
use Rattle.tables.proofs.OutcomeLaws.{refuses_by}
use Rattle.console_orders.proofs.Unique.{number_above}
use Rattle.console_orders.proofs.BuildLaws.{single_room, single_fits, single_done}
use Rattle.console_orders.proofs.single.Goals as goal

pub returns-in_err-check_single : goal.returns-in_err-check_single
returns-in_err-check_single c = refuses_by _ number_above _ _ _ _ _ _ _ c.from_residual.ensures.1 c.in_err-check_single.ensures

pub overflow_add-y : goal.overflow_add-y
overflow_add-y c = search (single_fits, c.in_ok-check_single.ensures)

pub write_twelve-requires : goal.write_twelve-requires
write_twelve-requires c = search (single_room, c.in_ok-check_single.ensures)

pub returns : goal.returns
returns c = search (single_done, c.in_ok-check_single.ensures)
