-- `imports::check_order` meets its contract.
use Rattle.tables.proofs.RefusalLaws.{rows}
use Rattle.std.proofs.Common.{Some}
use Rattle.imports.proofs.ImportLaws.{cause_front, cause_back}
use Rattle.imports.proofs.check_order.Goals as goal

pub returns-in_err-check_groups : goal.returns-in_err-check_groups
returns-in_err-check_groups c =
    cause_front _ (Some c.args.source) c.args.permissions.now _ _ _ _ c.from_residual.ensures.1 c.in_err-check_groups.ensures

pub returns-then-not-permitted : goal.returns-then-not-permitted
returns-then-not-permitted c = search (cause_back, c.in_ok-check_groups.ensures, rows) depth 16

pub returns : goal.returns
returns c = search (cause_back, c.in_ok-check_groups.ensures, rows) depth 16
