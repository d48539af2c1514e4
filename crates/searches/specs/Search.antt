-- "Search the phy table upwards for a ready phy whose attached address is the destination .. Failing that, search the route table upwards".
-- A frame's destination is its bytes 4-11.
use Rattle.std.specs.Prelude.{Bool, true, cond, ◌&&◌, List, ℕ, zero, suc, ◌+◌, ◌*◌, eqb, ltb, get_or, Option, Some, None}
use Rattle.wire.specs.declared.ZoneGroup.{ZoneGroup}
use Rattle.tables.specs.Phys.{phy_record, phy_count, phy_group, ready}
use Rattle.tables.specs.Routes.{route_record, route_count, route_phy, route_group}
use Rattle.searches.specs.declared.Destination.{Destination}

-- the n bytes of s from i on are those of t from j on
unfoldable pub same_bytes : ℕ → List ℕ → ℕ → List ℕ → ℕ → Bool
same_bytes zero s i t j = true
same_bytes (suc n) s i t j = eqb (get_or s (i + n) 0) (get_or t (j + n) 0) && same_bytes n s i t j

-- the n bytes of s from i on are zero
unfoldable pub zero_bytes : ℕ → List ℕ → ℕ → Bool
zero_bytes zero s i = true
zero_bytes (suc n) s i = eqb (get_or s (i + n) 0) 0 && zero_bytes n s i

-- a phy and a group, found
abbrev pub found : ℕ → ℕ → Option Destination
found phy group = Some (record { phy = record { 0 = phy }; group = record { 0 = group } })

-- "Failing that"
abbrev pub or_else : Option Destination → Option Destination → Option Destination
or_else (Some d) f = Some d
or_else None f = f

-- "a ready phy whose attached address is the destination; its group is the destination group": the first of the n phys from i on
unfoldable pub find_phy : List ℕ → List ℕ → ℕ → ℕ → Option Destination
find_phy phys frame i zero = None
find_phy phys frame i (suc n) =
    cond (ready phys i && same_bytes 8 phys (phy_record * i + 4) frame 4)
    (found i (phy_group phys i))
    (find_phy phys frame (suc i) n)

-- "whose phy exists and is ready"
abbrev pub usable : List ℕ → ℕ → Bool
usable phys p = ltb p (phy_count phys) && ready phys p

-- "the record's group is the destination group"; where its byte 9 is no group "Such a route record is skipped in searches"
abbrev pub found_by : ℕ → Option ZoneGroup → Option Destination
found_by phy (Some group) = Some (record { phy = record { 0 = phy }; group = group })
found_by phy None = None

-- "a record with that address whose phy exists and is ready": the first of the n from i on that is not skipped
unfoldable pub find_route : List ℕ → List ℕ → List ℕ → ℕ → ℕ → Option Destination
find_route phys routes frame i zero = None
find_route phys routes frame i (suc n) =
    cond (usable phys (route_phy routes i) && same_bytes 8 routes (route_record * i) frame 4)
    (or_else (found_by (route_phy routes i) (route_group routes i)) (find_route phys routes frame (suc i) n))
    (find_route phys routes frame (suc i) n)

-- "An address of zero matches nothing."
unfoldable pub search : List ℕ → List ℕ → List ℕ → Option Destination
search phys routes frame =
    cond (zero_bytes 8 frame 4) None
    (or_else (find_phy phys frame 0 (phy_count phys)) (find_route phys routes frame 0 (route_count routes)))
