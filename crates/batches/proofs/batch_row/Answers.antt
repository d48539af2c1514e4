-- `batches::batch_row` meets its contract: two tables of bytes that say the same of every pair are the same.
use native.Mathlib.Omega.{arith}
use borrow.Author.Rules.{rules}
use Rattle.permit.proofs.Laws.{Bytes}
use Rattle.batches.proofs.RowLaws.{row_written}
use Rattle.batches.proofs.batch_row.Goals as goal

pub returns : goal.returns
returns c =
    let old : Bytes c.args.permissions.now = λ k. search rules in
    let new : Bytes c.put_column.new.permissions = λ k. omega (arith, c.type_inv.permissions k) in
    search row_written
