-- `batches::put_row` meets its contract.
use Prim.Native.Nat.{◌+◌, ◌-◌, ◌*◌}
use native.Mathlib.Omega.{arith}
use Rattle.batches.proofs.RowLaws.{row_put}
use Rattle.batches.proofs.put_row.Goals as goal

pub returns : goal.returns
returns c =
    let args = c.args in
    row_put args.width args.permissions.now args.rows.now args.i args.r.0 (args.i * 16 + (16 - args.width))
    (omega arith) (omega arith) (omega arith) (omega arith) (omega arith) _ _ _
    c.row_at-to.ensures.0 c.copy.ensures c.keep_low.ensures
