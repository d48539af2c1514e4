-- "Numbered refusals, in order of checking": 1, 2, 3 and 7 come first, in this order, in every call that has an arriving phy.
use Rattle.std.specs.Prelude.{Bool, true, false, List, [], ◌∷◌, ℕ}
use Rattle.tables.specs.Refusals.{Test, at_most, off, on, Check, refuse}
use Rattle.tables.specs.Phys.{phy_count, phys_sized, ready}

-- 7: "arriving phy not ready; for IDENTIFY, already ready". A call awaits a phy that is ready, IDENTIFY one that is not.
abbrev pub unlike : Bool → Bool → Test
unlike true is_ready = off is_ready
unlike false is_ready = on is_ready

-- "a table the call uses has a size not named above": the phy table, then the call's others, of which `sizes` tells whether they have theirs;
-- "arriving phy not below the number of phys"; "response buffer under 1,020 bytes, phy set under 16, or frame buffer under 28, where the call
-- writes one": `room` tells whether there is room for what the call writes; and 7, where `awaited` tells whether a ready phy is awaited
unfoldable pub arrival_checks : List ℕ → ℕ → Bool → Bool → Bool → List Check
arrival_checks phys phy sizes room awaited =
    refuse 1 (off (phys_sized phys))
    ∷ refuse 1 (off sizes)
    ∷ refuse 2 (at_most (phy_count phys) phy)
    ∷ refuse 3 (off room)
    ∷ refuse 7 (unlike awaited (ready phys phy))
    ∷ []
