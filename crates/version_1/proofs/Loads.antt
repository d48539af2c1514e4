-- Version 1, loaded: the refusals, row by row, and the records of a file that has them.
-- Assumes nothing.
use mathlib.Core.Path.{◌≡◌, refl, sym, ap, ◌∙◌}
use mathlib.Core.Bool.{Bool, true, false, not}
use mathlib.Core.List.{List, [], ◌∷◌}
use Prim.Native.Nat.{ℕ, ◌-◌, ◌*◌, ◌%◌, ◌≤◌}
use native.Mathlib.Nat.{sub-zero}
use native.Mathlib.Omega.{arith}
use borrow.Author.Tests.{not-false}
use lib.ListN.{length, take}
use lib.Seq.{length-take-le}
use Rattle.permit.specs.Permission.{permissions_sized, start_table, Width, Table}
use Rattle.permit.specs.Orders.{apply}
use Rattle.permit.specs.History.{Valid}
use Rattle.permit.proofs.Laws.{table_sized, length-start}
use Rattle.tables.specs.Refusals.{first_refusal, refuse, off, below, same, differ}
use Rattle.tables.proofs.RefusalLaws.{clear, skipped, rows, first, here, next}
use Rattle.file_pairs.specs.Pairs.{ascending, orders_of, loaded}
use Rattle.file_pairs.proofs.Records.{ascends, orders_valid}
use Rattle.file_trailer.specs.Trailer.{version_of, count_of, pairs_in, lengths_checks}
use Rattle.file_trailer.proofs.Trailers.{lengths_back}
use Rattle.version_1.specs.Version1.{pairs_checks, load_checks, Holding}

-- ---- the records: a file whose lengths agree has them
pub lengths_hold : (file : List ℕ) (beside : ℕ) → 0 ≡ first_refusal (lengths_checks file beside) → 12 ≤ length file → Holding file
lengths_hold file beside e l =
    let k = clear (lengths_checks file beside) 0 e refl tt in
    record { long = l; there = omega arith }

module _ (file : List ℕ) (h : Holding file) (end : ℕ) (e : end ≡ 2 * count_of file) where
  slice : take (end - 0) file ≡ pairs_in file
  unfolding pairs_in
  slice = ap (λ (n : ℕ). take n file) (sub-zero end ∙ e)

  pub slice_even : length (take (end - 0) file) % 2 ≡ 0
  slice_even =
      let l = length-take-le (end - 0) file (omega (arith, h.there)) in
      omega arith

  pub slice_judged : (w : ℕ) (r : Bool) → r ≡ ascending w 0 (take (end - 0) file) → r ≡ ascending w 0 (pairs_in file)
  slice_judged w r q = rw (← slice) q

  pub slice_valid : (w : ℕ) → ascending w 0 (pairs_in file) ≡ true → Valid w (orders_of (take (end - 0) file))
  slice_valid w q = rw slice (orders_valid w 0 (pairs_in file) (ascends w 0 (pairs_in file) q))

  pub slice_done : (w : ℕ) (t u : List ℕ) → t ≡ start_table w → u ≡ apply w (orders_of (take (end - 0) file)) t → u ≡ loaded w (pairs_in file)
  unfolding loaded
  slice_done w t u et eu = eu ∙ rw (slice, et)

pub started : (w : ℕ) (s t : List ℕ) → Table w s → t ≡ start_table w → Table w t
started w s t h e = record { some = h.some; most = h.most; sized = ap length e ∙ length-start w }

-- ---- the refusals
module _ (w : ℕ) (file : List ℕ) (e : 0 ≡ first_refusal (lengths_checks file 12)) (v : Bool) (ev : v ≡ ascending w 0 (pairs_in file)) where
  pub pairs_refused : not v ≡ true → 37 ≡ first_refusal (pairs_checks w file)
  pairs_refused h = lengths_back file 12 37 (refuse 37 (off (ascending w 0 (pairs_in file))) ∷ []) e (search rows depth 16)

  pub pairs_taken : not v ≡ false → 0 ≡ first_refusal (pairs_checks w file)
  pairs_taken h = lengths_back file 12 0 (refuse 37 (off (ascending w 0 (pairs_in file))) ∷ []) e (search rows depth 16)

-- behind the first two rows, with v the version that was read
module _ (w : ℕ) (permissions file : List ℕ) (sized : Bool) (v : ℕ) (es : sized ≡ permissions_sized w permissions) (hs : not sized ≡ false)
    (hl : 12 ≤ length file) (ev : v ≡ version_of file) where
  of_size : not (permissions_sized w permissions) ≡ false
  of_size = ap not (sym es) ∙ hs

  pub version_2 : v ≡ 2 → 32 ≡ first_refusal (load_checks w permissions file)
  version_2 h = first (next of_size (next hl (here (sym ev ∙ h))))

  pub version_unknown : (v ≡ 2 → ⊥) → (v ≡ 1 → ⊥) → 33 ≡ first_refusal (load_checks w permissions file)
  version_unknown h g = first (next of_size (next hl (next (λ q. h (ev ∙ q)) (here (λ q. g (ev ∙ q))))))

  pub version_1 : (r : ℕ) → v ≡ 1 → r ≡ first_refusal (pairs_checks w file) → r ≡ first_refusal (load_checks w permissions file)
  version_1 r h er =
      er
      ∙ sym (skipped 1 (off (permissions_sized w permissions)) _ of_size
      ∙ skipped 31 (below (length file) 12) _ hl
      ∙ skipped 32 (same (version_of file) 2) _ (λ q. omega (arith, ev, h, q))
      ∙ skipped 33 (differ (version_of file) 1) (pairs_checks w file) (sym ev ∙ h))

-- ---- what a load that is not refused knows
module _ (w : ℕ) (permissions file : List ℕ) (e : 0 ≡ first_refusal (load_checks w permissions file)) where
  pub load_ascends : ascending w 0 (pairs_in file) ≡ true
  load_ascends =
      let k = clear (load_checks w permissions file) 0 e refl tt in
      not-false (ascending w 0 (pairs_in file)) k.1.1.1.1.1.1.1.0

  pub load_ready : Width w → Table w permissions × Holding file × (ascending w 0 (pairs_in file) ≡ true)
  load_ready h =
      let k = clear (load_checks w permissions file) 0 e refl tt in
      (table_sized w permissions h (not-false (permissions_sized w permissions) k.0), record { long = k.1.0; there = omega arith }, load_ascends)
