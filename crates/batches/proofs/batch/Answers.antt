-- `batches::batch` meets its contract: the rows that are left, done to the table as it is, give what the whole batch gives.
-- the code's part of a slice from 12 to its end is what is left after 12
use mathlib.Core.Path.{◌≡◌}
use mathlib.Core.List.{List}
use Prim.Native.Nat.{ℕ, ◌+◌, ◌-◌, ◌<◌}
use native.Mathlib.Omega.{arith}
use borrow.Author.Rules.{rules}
use lib.ListN.{length, take, drop, length-take, length-drop}
use lib.Seq.{take_all}
use Rattle.permit.specs.Permission.{groups, P}
use Rattle.permit.specs.Orders.{apply, row_orders}
use Rattle.permit.proofs.HistoryLaws.{BatchLeft, batch_again, batch_done}
use Rattle.permit.proofs.ReachLaws.{rows_end_lem}
use Rattle.batches.proofs.batch.Goals as goal

again : (w : ℕ) (request t₀ t t' : List ℕ) (start k i : ℕ) → i < k
    → t' ≡ apply w (row_orders (P 16 (take (length request - 12) (drop 12 request)) i) (start + i) 2 (groups w - 2)) t
    → BatchLeft w (drop 12 request) start k t₀ t i → BatchLeft w (drop 12 request) start k t₀ t' (i + 1)
again w request t₀ t t' start k i h e l =
    batch_again w (drop 12 request) start k t₀ t t' i h
    (rw (take_all (length request - 12) (drop 12 request) (omega (arith, length-drop 12 request))) at e) l

pub batch_row-requires : goal.batch_row-requires
batch_row-requires c = (search rules, simp (length-take, length-drop) (omega arith), search rows_end_lem)

pub loop-i-preserved : goal.loop-i-preserved
loop-i-preserved c = again _ c.args.request.now _ _ _ _ _ _ (omega arith) c.batch_row.ensures c.loop-i.invariant

pub returns : goal.returns
returns c = search batch_done
