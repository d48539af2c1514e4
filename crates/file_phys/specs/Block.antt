-- Document 02, request 08: "Version 2 adds a block of three bytes for every phy (number, byte 0, byte 1), ascending".
use Rattle.std.specs.Prelude.{Bool, true, false, ◌&&◌, List, [], ◌∷◌, ℕ, suc, ◌+◌, ◌*◌, ◌/◌, ◌<◌, leb, ltb, length, get_or}
use Rattle.wire.specs.Runs.{every, texts}
use Rattle.tables.specs.Phys.{phy_count, phy_byte, zoned}
use Rattle.phy_zone.specs.PhyZone.{sound}

-- "three bytes .. (number, byte 0, byte 1)": those of phy i
abbrev pub phy_entry : List ℕ → ℕ → List ℕ
phy_entry phys i = i ∷ phy_byte phys i 0 ∷ phy_byte phys i 1 ∷ []

-- "for every phy of the table .. ascending"
unfoldable pub block_of : List ℕ → List ℕ
block_of phys = texts (phy_entry phys) 0 (phy_count phys)

-- "a phy out of range or order" is not there: every number is below the count of phys, and they ascend strictly, from `low` on
unfoldable pub numbered : ℕ → ℕ → List ℕ → Bool
numbered count low [] = true
numbered count low (i ∷ []) = false
numbered count low (i ∷ x ∷ []) = false
numbered count low (i ∷ x ∷ y ∷ rest) = (leb low i && ltb i count) && numbered count (suc i) rest

-- "a phy block that 93h would answer with 02h, or with a reserved bit set": two bytes that are not so. A reserved bit of byte 1 makes a group
-- above 127, which is not sound.
unfoldable pub writable : ℕ → ℕ → ℕ → Bool
writable w x y = ltb x 32 && sound w x y

-- entry i of a block
unfoldable pub entry_writable : ℕ → List ℕ → ℕ → Bool
entry_writable w block i = writable w (get_or block (3 * i + 1) 0) (get_or block (3 * i + 2) 0)

unfoldable pub all_writable : ℕ → List ℕ → Bool
all_writable w block = every (entry_writable w block) 0 (length block / 3)

-- "bytes 0 and 1 of every phy" are written
unfoldable pub rezoned : List ℕ → List ℕ → List ℕ
rezoned phys [] = phys
rezoned phys (i ∷ []) = phys
rezoned phys (i ∷ x ∷ []) = phys
rezoned phys (i ∷ x ∷ y ∷ rest) = rezoned (zoned phys i x y) rest

-- what the inner function asks: every number in a block is a phy's
abbrev pub Below : ℕ → List ℕ → Type 0
Below count [] = Unit
Below count (i ∷ []) = Unit
Below count (i ∷ x ∷ []) = Unit
Below count (i ∷ x ∷ y ∷ rest) = (i < count) × Below count rest
