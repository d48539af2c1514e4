-- `shown_rows::report_rows` meets its contract.
use native.Mathlib.Omega.{arith}
use Rattle.permit.proofs.Laws.{Bytes}
use Rattle.shown_rows.proofs.ShownLaws.{report_copied}
use Rattle.shown_rows.proofs.report_rows.Goals as goal

pub returns-then-width-eq16 : goal.returns-then-width-eq16
returns-then-width-eq16 c = let old : Bytes c.args.permissions.now = λ k. omega (arith, c.type_inv.permissions k) in search report_copied
