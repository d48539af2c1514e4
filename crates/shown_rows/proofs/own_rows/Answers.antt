-- `shown_rows::own_rows` meets its contract: the first k rows are shown.
use native.Mathlib.Omega.{arith}
use Rattle.permit.proofs.Laws.{Bytes}
use Rattle.shown_rows.proofs.ShownLaws.{own_again}
use Rattle.shown_rows.proofs.own_rows.Goals as goal

pub loop-k-preserved : goal.loop-k-preserved
loop-k-preserved c =
    let bytes : Bytes c.args.permissions.now = λ k. omega (arith, c.type_inv.permissions k) in
    own_again _ _ _ _ _ bytes c.requires.0 c.requires.1 c.requires.2 _ _ _ c.loop-k.invariant (omega arith) c.row_at-from.ensures.0 _ c.copy.ensures
