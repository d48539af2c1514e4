-- `imports::obey_line` meets its contract.
use Rattle.std.proofs.Common.{Some}
use Rattle.imports.proofs.ImportLaws.{line_stops, order_refused, order_ranges, order_goes}
use Rattle.imports.proofs.obey_line.Goals as goal

pub returns-in_default : goal.returns-in_default
returns-in_default c = line_stops _ (Some c.args.source) _ _ _ (rw c.in_default.is at c.read_line.ensures)

pub returns-in_err-check_order : goal.returns-in_err-check_order
returns-in_err-check_order c =
    order_refused _ (Some c.args.source) _ _ _ _ _ _ _ c.in-Some.ensures _ c.in_err-check_order.ensures c.requires _ c.from_residual.ensures.1

pub write_both-requires : goal.write_both-requires
write_both-requires c = order_ranges _ (Some c.args.source) _ _ _ _ _ _ _ c.in-Some.ensures c.in_ok-check_order.ensures c.requires

pub returns : goal.returns
returns c = order_goes _ (Some c.args.source) _ _ _ _ _ _ _ c.in-Some.ensures c.in_ok-check_order.ensures c.requires _ c.write_both.ensures
