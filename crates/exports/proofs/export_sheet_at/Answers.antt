-- `exports::export_sheet_at` meets its contract.
use Rattle.tables.proofs.OutcomeLaws.{refuses}
use Rattle.exports.proofs.ExportLaws.{export_room, export_short, export_gives}
use native.Mathlib.Omega.{arith}
use borrow.Author.Rules.{rules}
use Rattle.exports.proofs.export_sheet_at.Goals as goal

pub returns-in_err-check_export : goal.returns-in_err-check_export
returns-in_err-check_export c = refuses _ _ _ _ _ _ _ c.from_residual.ensures.1 c.in_err-check_export.ensures

pub put_sheet-end-requires : goal.put_sheet-end-requires
put_sheet-end-requires c = export_room _ _ _ (search rules) c.in_ok-check_export.ensures

pub overflow_cast-result : goal.overflow_cast-result
overflow_cast-result c = let h = export_short _ _ _ _ _ (search rules) c.put_sheet-end.ensures in omega arith

pub returns : goal.returns
returns c = export_gives _ _ _ _ _ (search rules) c.in_ok-check_export.ensures c.put_sheet-end.ensures
