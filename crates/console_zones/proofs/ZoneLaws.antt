-- Phy zones: the bytes of the descriptors, and what was written.
-- Assumes nothing.
use mathlib.Core.Path.{◌≡◌, refl, sym, ◌∙◌}
use mathlib.Core.Bool.{Bool, true, false, cond, not}
use mathlib.Core.List.{List, ◌++◌}
use Prim.Native.Nat.{ℕ, ◌+◌, ◌*◌, ◌/◌, ◌%◌, ◌≤◌, ◌<◌}
use native.Mathlib.Omega.{arith}
use mir.Syntax.{w8}
use mir.Val.{Fits}
use borrow.Author.Tests.{ltb-true, eq-eqb, ne_eqb, not-false}
use lib.Dec.{eqb}
use lib.ListN.{length, drop, length-append, get_or-eq_default}
use lib.Seq.{paste}
use Rattle.wire.specs.Bits.{num, tab}
use Rattle.wire.specs.Runs.{every}
use Rattle.wire.proofs.Loops.{length-tab}
use Rattle.wire.proofs.RunLaws.{every_at}
use Rattle.tables.proofs.ArrivalLaws.{both}
use Rattle.console_orders.specs.Building.{eight}
use Rattle.console_orders.proofs.BuildLaws.{behind}
use Rattle.console_zones.specs.Zones.{entry_count, takes_part, priority_at, group_at, small, entry_byte, described, phy_zones_request}

-- ---- entries
pub small_at : (entries : List ℕ) (i : ℕ) → not (every (small entries) 0 (entry_count entries)) ≡ false → i < entry_count entries
    → (priority_at entries i < 16) × (group_at entries i < 128)
unfolding small
small_at entries i e h =
    let p = both _ _ (every_at (small entries) 0 (entry_count entries) i (omega arith) (omega arith) (not-false _ e)) in
    (ltb-true (priority_at entries i) 16 p.0, ltb-true (group_at entries i) 128 p.1)

-- byte i of the descriptors, by each way out of the function that answers it
module _ (entries : List ℕ) (i : ℕ) (w : length entries % 3 ≡ 0) where
  pub byte_fill : entry_count entries ≤ i / 2 → 0 ≡ entry_byte entries i
  unfolding entry_byte
  byte_fill h =
      let a : length entries ≤ 3 * (i / 2) = omega arith in
      let b : length entries ≤ 3 * (i / 2) + 1 = omega arith in
      let c : length entries ≤ 3 * (i / 2) + 2 = omega arith in
      rw (get_or-eq_default entries 0 a, get_or-eq_default entries 0 b, get_or-eq_default entries 0 c) (go (eqb (i % 2) 0))
    where
      go : (v : Bool) → 0 ≡ cond v (16 * 0 + 0) 0
      go true = refl
      go false = refl

  pub byte_group : (i % 2 ≡ 0 → ⊥) → group_at entries (i / 2) ≡ entry_byte entries i
  unfolding entry_byte
  byte_group h = rw (ne_eqb (i % 2) 0 h)

  pub byte_first : (x : ℕ) → i % 2 ≡ 0 → x ≡ num (takes_part entries (i / 2)) → 16 * x + priority_at entries (i / 2) ≡ entry_byte entries i
  unfolding entry_byte
  byte_first x h e = rw (eq-eqb (i % 2) 0 h, e)

pub entry_fits : (entries : List ℕ) (e x : ℕ) → not (every (small entries) 0 (entry_count entries)) ≡ false → e < entry_count entries → x ≤ 1
    → Fits w8 (16 * x + priority_at entries e)
entry_fits entries e x q h l = let p = small_at entries e q h in omega (arith, p.0)

-- ---- its bytes
module _ (start : ℕ) (entries room : List ℕ) where
  pub zones_length : 8 + 2 * (entry_count entries + entry_count entries % 2) ≡ length (phy_zones_request start entries)
  unfolding phy_zones_request
  zones_length = sym (length-append (eight 0x93 (1 + described (entry_count entries) / 4) start (entry_count entries)) (tab (entry_byte entries) 0 (described (entry_count entries))) ∙ rw (length-tab (entry_byte entries) 0 (described (entry_count entries))))

  pub zones_written : (room₀ room₁ : List ℕ)
      → room₀ ≡ eight 0x93 (1 + (entry_count entries + entry_count entries % 2) / 2) start (entry_count entries) ++ drop 8 room
      → room₁ ≡ paste room₀ 8 (tab (entry_byte entries) 0 (described (entry_count entries))) (described (entry_count entries))
      → room₁ ≡ phy_zones_request start entries ++ drop (length (phy_zones_request start entries)) room
  unfolding phy_zones_request
  zones_written room₀ room₁ e0 e1 =
      let d : (entry_count entries + entry_count entries % 2) / 2 ≡ described (entry_count entries) / 4 = omega arith in
      behind (entry_byte entries) (described (entry_count entries)) 8
      (eight 0x93 (1 + described (entry_count entries) / 4) start (entry_count entries)) room room₀ room₁ refl (e0 ∙ rw d) e1
