-- Which groups reach which, of all groups, for any row width.
-- Assumes nothing.
use mathlib.Core.Path.{◌≡◌, refl, sym, ◌∙◌}
use mathlib.Core.Bool.{Bool, true, false, cond, ◌&&◌, ◌||◌, or_comm}
use mathlib.Core.List.{List}
use Prim.Native.Nat.{ℕ, zero, suc, ◌+◌, ◌≤◌, ◌<◌}
use native.Mathlib.Decide.{dec_lt}
use native.Mathlib.Omega.{arith}
use borrow.Author.Tests.{lt-ltb, le-ltb}
use lib.Dec.{eqb, ltb}
use Rattle.permit.specs.Permission.{groups, P, reaches}
use Rattle.permit.specs.Orders.{rows_end}
use Rattle.permit.proofs.Laws.{Mutual}

-- ---- the three cases of `reaches`
module _ (w : ℕ) (t : List ℕ) (a b : ℕ) (x : Bool) where
  pub reach_in : a < groups w → b < groups w → x ≡ P w t a b → x ≡ reaches w t a b
  unfolding reaches
  reach_in ha hb e = rw (lt-ltb a (groups w) ha, lt-ltb b (groups w) hb) e

  pub reach_row : groups w ≤ a → x ≡ (eqb a 1 || eqb b 1) → x ≡ reaches w t a b
  unfolding reaches
  reach_row h e = rw (le-ltb a (groups w) h) e

  pub reach_group : groups w ≤ b → x ≡ (eqb a 1 || eqb b 1) → x ≡ reaches w t a b
  unfolding reaches
  reach_group h e = rw (le-ltb b (groups w) h) (go (ltb a (groups w)))
    where
      go : (y : Bool) → x ≡ cond (y && false) (P w t a b) (eqb a 1 || eqb b 1)
      go true = e
      go false = e

-- what the code was told of two groups that the table holds
pub reach_held : (w : ℕ) (t : List ℕ) (a b : ℕ) (x : Bool) → a < groups w → b < groups w → x ≡ reaches w t a b → x ≡ P w t a b
reach_held w t a b x ha hb e = e ∙ sym (reach_in w t a b (P w t a b) ha hb refl)

-- document 01's table holds every group
pub reaches_16 : (t : List ℕ) (a b : ℕ) → a < 128 → b < 128 → reaches 16 t a b ≡ P 16 t a b
reaches_16 t a b ha hb = sym (reach_in 16 t a b (P 16 t a b) ha hb refl)

-- where the table is mutual, reaching is, of all groups
pub reaches_mutual : (w : ℕ) (t : List ℕ) → Mutual w t → (c d : ℕ) → reaches w t c d ≡ reaches w t d c
reaches_mutual w t m c d = go (dec_lt c (groups w)) (dec_lt d (groups w))
  where
    go : Dec (c < groups w) → Dec (d < groups w) → reaches w t c d ≡ reaches w t d c
    go (yes hc) (yes hd) = sym (reach_in w t c d (P w t c d) hc hd refl) ∙ m c d hc hd ∙ reach_in w t d c (P w t d c) hd hc refl
    go (no hc) d' = sym (reach_row w t c d _ (omega arith) refl) ∙ or_comm (eqb c 1) (eqb d 1) ∙ reach_group w t d c _ (omega arith) refl
    go (yes hc) (no hd) = sym (reach_group w t c d _ (omega arith) refl) ∙ or_comm (eqb c 1) (eqb d 1) ∙ reach_row w t d c _ (omega arith) refl

-- ---- a batch's rows are of groups that the table holds
pub rows_end_lem : (w start count i : ℕ) → i < count → rows_end start count ≤ groups w → start + i < groups w
unfolding rows_end
rows_end_lem w start zero i h l = absurd (omega arith)
rows_end_lem w start (suc n) i h l = omega arith
