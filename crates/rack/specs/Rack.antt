-- "The bench rack's eight phys are a fixed table, all ready with address known, addresses 50h, six zeros, 10h + i: groups 1, 2, 8, 8, 9,
-- 9, 0, 1 for phys 0 to 7; phy 7 participates; phy 0 has priority 15; all else is zero"
use Rattle.std.specs.Prelude.{List, [], ◌∷◌, ◌++◌, ℕ, ◌+◌}
use Rattle.rack.specs.declared.PhyRecord.{PhyRecord}

-- the sixteen bytes of a record
abbrev pub bytes_of : PhyRecord → List ℕ
bytes_of r = r.first ∷ r.group ∷ r.flags ∷ 0 ∷ (r.address ++ 0 ∷ 0 ∷ 0 ∷ 0 ∷ [])

-- phy i, with byte 0 and the group: ready and known are the bits 0 and 1 of byte 2
abbrev pub phy_of : ℕ → ℕ → ℕ → PhyRecord
phy_of i first group =
    record { first = first; group = group; flags = 3; address = 0x50 ∷ 0 ∷ 0 ∷ 0 ∷ 0 ∷ 0 ∷ 0 ∷ (0x10 + i) ∷ [] }

unfoldable pub rack : List PhyRecord
rack =
    phy_of 0 15 1 ∷ phy_of 1 0 2 ∷ phy_of 2 0 8 ∷ phy_of 3 0 8
    ∷ phy_of 4 0 9 ∷ phy_of 5 0 9 ∷ phy_of 6 0 0 ∷ phy_of 7 16 1 ∷ []

unfoldable pub flat : List PhyRecord → List ℕ
flat [] = []
flat (r ∷ rs) = bytes_of r ++ flat rs

-- the phy table that the bench program starts from
unfoldable pub rack_table : List ℕ
unfolding rack flat
rack_table = flat rack
