-- Laws of phy records.
-- Assumes nothing.
use mathlib.Core.Path.{◌≡◌, sym, ap, ◌∙◌}
use mathlib.Core.Bool.{false}
use mathlib.Core.List.{List, ◌++◌}
use Prim.Native.Nat.{ℕ, ◌+◌, ◌*◌, ◌%◌, ◌≤◌, ◌<◌}
use native.Mathlib.Nat.{add-zero}
use native.Mathlib.Omega.{arith}
use lib.Dec.{eqb}
use lib.ListN.{length, get_or, take, drop, replicate, get_or-eq_default, length-set}
use lib.Seq.{get_or-take, get_or-drop}
use Rattle.wire.specs.PhySet.{member}
use Rattle.wire.proofs.Sets.{member-set_of}
use Rattle.tables.specs.Phys.{phy_record, phy_count, phy_byte, ready, ready_set, empty_set, zoned}

-- byte 0, as the code reads it
pub byte0 : (phys : List ℕ) (i : ℕ) → get_or phys (phy_record * i) 0 ≡ phy_byte phys i 0
byte0 phys i = ap (λ (k : ℕ). get_or phys k 0) (sym (add-zero (phy_record * i)))

-- one record, byte by byte
pub record_bytes : (phys₁ phys₂ : List ℕ) (i : ℕ) → take phy_record (drop (phy_record * i) phys₁) ≡ take phy_record (drop (phy_record * i) phys₂)
    → (k : ℕ) → k < phy_record → phy_byte phys₁ i k ≡ phy_byte phys₂ i k
record_bytes phys₁ phys₂ i e k h = sym (byte_of phys₁) ∙ ap (λ (l : List ℕ). get_or l k 0) e ∙ byte_of phys₂
  where
    byte_of : (phys : List ℕ) → get_or (take phy_record (drop (phy_record * i) phys)) k 0 ≡ phy_byte phys i k
    byte_of phys = get_or-take phy_record (drop (phy_record * i) phys) k 0 h ∙ get_or-drop (phy_record * i) phys k 0

-- past the last record no phy is ready
pub ready_out : (phys : List ℕ) (i : ℕ) → length phys % phy_record ≡ 0 → phy_count phys ≤ i → false ≡ ready phys i
ready_out phys i w h =
    let l : length phys ≤ phy_record * i + 2 = omega arith in
    ap (λ (x : ℕ). eqb (x % 2) 1) (sym (get_or-eq_default phys 0 l))

pub length-zoned : (phys : List ℕ) (i b0 b1 : ℕ) → length (zoned phys i b0 b1) ≡ length phys
unfolding zoned
length-zoned phys i b0 b1 = simp length-set

-- a phy is in the set of all ready phys exactly if it is ready
pub member-ready : (phys : List ℕ) (i : ℕ) → i < 128 → member (ready_set phys) i ≡ ready phys i
unfolding ready_set
member-ready phys i h = member-set_of (ready phys) i h

-- sixteen zeros
pub empty_cleared : (s₀ s : List ℕ) → s ≡ replicate 16 0 ++ drop 16 s₀ → s ≡ empty_set ++ drop 16 s₀
unfolding empty_set
empty_cleared s₀ s e = e
