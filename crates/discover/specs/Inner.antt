-- What the inner functions leave, as stores.
use Rattle.std.specs.Prelude.{List, ℕ, ◌+◌, ◌*◌, ◌/◌, ◌%◌, set, drop}
use Rattle.std.proofs.Math.Seq.{paste}
use Rattle.wire.specs.Bits.{num}
use Rattle.tables.specs.Phys.{phy_record, phy_group, participating, device_type, attached_phy}
use Rattle.discover.specs.declared.Changes.{Changes}

-- what is said of every phy stored
unfoldable pub fields_in : List ℕ → ℕ → Changes → List ℕ → List ℕ
fields_in phys i changes s =
    set (set (set (set (set (set s 4 (changes.expander / 256)) 5 (changes.expander % 256)) 9 i) 42 changes.phy)
    60 (num (participating phys i) * 2 + 1)) 63 (phy_group phys i)

-- the three attached fields stored
abbrev pub attached_in : List ℕ → ℕ → List ℕ → List ℕ
attached_in phys i response =
    paste (set (set response 12 (device_type phys i * 16)) 32 (attached_phy phys i)) 24 (drop (phy_record * i + 4) phys) 8
