-- A call that answered was not refused, and left its values and the new buffers.
-- Assumes nothing.
use mathlib.Core.Path.{◌≡◌, refl, sym}
use mathlib.Core.Bool.{false, not}
use mathlib.Core.List.{List}
use Prim.Native.Nat.{ℕ, zero, suc}
use native.Mathlib.Omega.{arith}
use borrow.Author.Tests.{eqb-true, eq-eqb, not-false}
use lib.Dec.{eqb}
use lib.ListN.{length}
use Rattle.permit.specs.Permission.{table_size, permissions_sized}
use Rattle.tables.specs.Outcome.{answer, out, outcome}
use Rattle.tables.proofs.OutcomeLaws.{gives}

pub record Answered (n : ℕ) (values vs : List ℕ) (new bs : List (List ℕ)) : Type 0 where
  pub passed : n ≡ 0
  pub same : values ≡ vs
  pub left : new ≡ bs

pub answered : (n : ℕ) (values vs : List ℕ) (old new bs : List (List ℕ)) → outcome n values old new ≡ out (answer vs) bs → Answered n values vs new bs
unfolding outcome
answered zero values vs old new bs e = record { passed = refl; same = cc; left = cc }
answered (suc n) values vs old new bs e = absurd (let z : ◌≡◌ {A = ℕ} 0 1 = cc in omega arith)

pub passes : (n : ℕ) (values : List ℕ) (old new : List (List ℕ)) → 0 ≡ n → outcome n values old new ≡ out (answer values) new
passes n values old new e = sym (gives (answer values) values n new old new e refl refl)

-- ---- the row on the permission table's size, which every call has
pub sized_row : (w : ℕ) (t : List ℕ) → length t ≡ table_size w → not (permissions_sized w t) ≡ false
sized_row w t e = rw (eq-eqb (length t) (table_size w) e)

pub row_sized : (w : ℕ) (t : List ℕ) → not (permissions_sized w t) ≡ false → length t ≡ table_size w
row_sized w t e = eqb-true (length t) (table_size w) (not-false (eqb (length t) (table_size w)) e)
