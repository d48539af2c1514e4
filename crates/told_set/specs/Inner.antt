-- What the inner functions ask and do. w is the permission table's row width in bytes.
use Rattle.std.specs.Prelude.{◌≡◌, Bool, true, false, not, ◌&&◌, List, ℕ, ◌+◌, ◌-◌, ◌*◌, ◌/◌, ◌%◌, ◌≤◌, ◌<◌, eqb, length, get_or}
use Rattle.wire.specs.PhySet.{set_byte}
use Rattle.permit.specs.Permission.{Table}
use Rattle.tables.specs.Phys.{phy_record, phy_count, phy_address, ready}
use Rattle.tables.specs.Ports.{same_port}
use Rattle.told_set.specs.ToldSet.{permitted, told}

-- tables of the right sizes and an arriving phy that is ready
pub record Shelf (w : ℕ) (phys permissions : List ℕ) (phy : ℕ) : Type 0 where
  pub records : length phys % phy_record ≡ 0
  pub most : length phys ≤ 128 * phy_record
  pub table : Table w permissions
  pub there : phy < phy_count phys
  pub up : ready phys phy ≡ true

-- ---- the candidates below a phy, found again by their addresses
-- a permitted phy outside the arriving phy's port
unfoldable pub candidate : ℕ → List ℕ → List ℕ → ℕ → ℕ → ℕ → Bool
candidate w phys permissions phy source i = permitted w phys permissions source i && not (same_port phys phy i)

-- the slot that an address goes to, one of 256
unfoldable pub slot_of : ℕ → ℕ
slot_of a = a % 4294967296 * 2654435761 / 16777216 % 256

-- phy j is a candidate whose address is not zero and goes to slot h
unfoldable pub in_slot : ℕ → List ℕ → List ℕ → ℕ → ℕ → ℕ → ℕ → Bool
in_slot w phys permissions phy source h j =
    candidate w phys permissions phy source j && (not (eqb (phy_address phys j) 0) && eqb (slot_of (phy_address phys j)) h)

-- k is one more than the last number below n at which f is true, or 0 where there is none
pub record Latest (f : ℕ → Bool) (n k : ℕ) : Type 0 where
  pub within : k ≤ n
  pub here : 0 < k → f (k - 1) ≡ true
  pub none : (j : ℕ) → k ≤ j → j < n → f j ≡ false

-- each slot leads to the last phy below i that is in it, and each phy below i that is in a slot to the one before it there; phy j's link is
-- at j + 1
pub record Kept (w : ℕ) (phys permissions : List ℕ) (phy source i : ℕ) (slots next : List ℕ) : Type 0 where
  pub slotted : length slots ≡ 256
  pub linked : length next ≡ 129
  pub heads : (h : ℕ) → h < 256 → Latest (in_slot w phys permissions phy source h) i (get_or slots h 0)
  pub links : (h j : ℕ) → j < i → in_slot w phys permissions phy source h j ≡ true → Latest (in_slot w phys permissions phy source h) j (get_or next (j + 1) 0)
  pub falls : (j : ℕ) → get_or next (j + 1) 0 ≤ j

-- a chain that can be walked from `from` on: each step goes down
pub record Chain (phys next : List ℕ) (from : ℕ) : Type 0 where
  pub there : from ≤ phy_count phys
  pub short : from ≤ 128
  pub linked : length next ≡ 129
  pub falls : (j : ℕ) → get_or next (j + 1) 0 ≤ j

-- along `next` from k on: whether a phy has this address
pub data Met : List ℕ → List ℕ → ℕ → ℕ → Bool → Type 0 where
  ended : (phys next : List ℕ) (address k : ℕ) → k ≤ 0 → Met phys next address k false
  found : (phys next : List ℕ) (address k : ℕ) → 0 < k → phy_address phys (k - 1) ≡ address → Met phys next address k true
  onward : (phys next : List ℕ) (address k : ℕ) (r : Bool) → 0 < k → (phy_address phys (k - 1) ≡ address → ⊥) → Met phys next address (get_or next k 0) r
      → Met phys next address k r

-- whether phy i is told, and the slots with it
pub record Judged (w : ℕ) (phys permissions : List ℕ) (phy source i : ℕ) (slots next : List ℕ) (r : Bool) : Type 0 where
  pub answer : r ≡ told w phys permissions phy source i
  pub kept : Kept w phys permissions phy source (i + 1) slots next

-- byte k of the set, and the slots with its eight phys, where there are more
pub record ByteTold (w : ℕ) (phys permissions : List ℕ) (phy source k : ℕ) (slots next : List ℕ) (r : ℕ) : Type 0 where
  pub answer : r ≡ set_byte (told w phys permissions phy source) k
  pub kept : 8 * k + 8 ≤ phy_count phys → Kept w phys permissions phy source (8 * k + 8) slots next
