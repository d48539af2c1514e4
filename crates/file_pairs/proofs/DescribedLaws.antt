-- A table that is as described: what is answered of two groups, and the loops over them.
-- Assumes nothing.
use mathlib.Core.Path.{◌≡◌, refl}
use mathlib.Core.Bool.{Bool, true, false, beq, not, ◌||◌}
use mathlib.Core.List.{List}
use Prim.Native.Nat.{ℕ, ◌-◌, ◌≤◌, ◌<◌}
use borrow.Author.Tests.{le-leb, lt-leb, not-true, not-false}
use lib.Dec.{eqb}
use Rattle.wire.specs.Runs.{every}
use Rattle.wire.proofs.RunLaws.{Judged, judged_start, judged_from}
use Rattle.permit.specs.Permission.{groups, P, reaches}
use Rattle.permit.proofs.Laws.{P-start}
use Rattle.permit.proofs.ReachLaws.{reach_held}
use Rattle.file_pairs.specs.Described.{fair, fair_row, described}

module _ (w : ℕ) (t : List ℕ) (a b : ℕ) (on back : Bool) (eo : on ≡ reaches w t a b) (eb : back ≡ reaches w t b a) (ha : a < groups w) (hb : b < groups w) where
  there : on ≡ P w t a b
  there = reach_held w t a b on ha hb eo

  again : back ≡ P w t b a
  again = reach_held w t b a back hb ha eb

  pub fair_off : not (beq on back) ≡ true → false ≡ fair w t a b
  unfolding fair
  fair_off h = rw (← there, ← again, not-true (beq on back) h)

  pub fair_high : not (beq on back) ≡ false → 2 ≤ a → true ≡ fair w t a b
  unfolding fair
  fair_high h l = rw (← there, ← again, not-false (beq on back) h, le-leb 2 a l)

  pub fair_low : (s : Bool) → s ≡ (eqb a 1 || eqb b 1) → not (beq on back) ≡ false → a < 2 → beq on s ≡ fair w t a b
  unfolding fair
  fair_low s es h l = rw (← there, ← again, not-false (beq on back) h, lt-leb 2 a l, P-start w a b ha hb, ← es)

pub row_start : (w : ℕ) (t : List ℕ) (a : ℕ) → a ≤ groups w → Judged (fair_row w t a) (fair w t a) (groups w) a
unfolding fair_row
row_start w t a h = judged_from (every (fair w t a) a (groups w - a)) (fair w t a) (groups w) a h refl

pub table_start : (w : ℕ) (t : List ℕ) → Judged (described w t) (fair_row w t) (groups w) 0
unfolding described
table_start w t = judged_start (fair_row w t) (groups w)
