-- "OPEN": "Byte 0 bits 3..0 type 1h; 4-11 destination; 12-19 source; byte 20 bit 7 ACCESS ZONE MANAGEMENT, bits 6..0 SOURCE ZONE GROUP".
use Rattle.std.specs.Prelude.{Bool, true, cond, ◌&&◌, List, [], ◌∷◌, ◌++◌, ℕ, ◌+◌, ◌*◌, ◌/◌, ◌%◌, ltb, leb, length, get_or, set, drop, Option, Some, None, Result}
use Rattle.wire.specs.Bits.{num}
use Rattle.wire.specs.Groups.{group_of}
use Rattle.permit.specs.Permission.{permissions_sized, reaches}
use Rattle.tables.specs.Refusals.{Check, refuse, differ, first_refusal}
use Rattle.tables.specs.Outcome.{Answer, Out, outcome}
use Rattle.tables.specs.Numbers.{answered}
use Rattle.tables.specs.declared.refusal.Refusal.{Refusal}
use Rattle.tables.specs.Phys.{phy_group, phy_priority, participating}
use Rattle.tables.specs.Ports.{same_port}
use Rattle.tables.specs.Routes.{routes_sized}
use Rattle.tables.specs.Arrival.{arrival_checks}
use Rattle.searches.specs.declared.Destination.{Destination}
use Rattle.opens.specs.declared.Opened.{Opened}
use Rattle.opens.specs.declared.Opened.TheVariants.{NoDestination, BadDestination, ZoneViolation, Forward}
use Rattle.searches.specs.Search.{search}

-- an outcome's place in its list, and the phy to forward on
abbrev pub values_of : Opened → List ℕ
values_of NoDestination = 1 ∷ []
values_of BadDestination = 2 ∷ []
values_of ZoneViolation = 3 ∷ []
values_of (Forward p) = 4 ∷ p.0 ∷ []

-- the answer in document 01's numbers
abbrev pub opened_as : Result Opened Refusal → Answer
opened_as = answered values_of

-- "frame buffer under 28": whether there is room for a frame
abbrev pub room_for : List ℕ → Bool
room_for buffer = leb 28 (length buffer)

-- refusals 1, 2, 3, 7, and 4 ("OPEN not 28"), 5 ("OPEN type not 1h")
abbrev pub open_checks : ℕ → List ℕ → List ℕ → List ℕ → ℕ → List ℕ → Bool → List Check
open_checks w phys routes permissions phy frame room =
    arrival_checks phys phy (routes_sized routes && permissions_sized w permissions) room true
    ++ refuse 4 (differ (length frame) 28)
    ∷ refuse 5 (differ (get_or frame 0 0 % 16) 1)
    ∷ []

-- "The source group .. of anything arriving on a phy that is not participating, is the phy record's group. For the rest, on a participating
-- phy, it is the group carried: in an OPEN the low 7 bits of byte 20"
unfoldable pub open_source : List ℕ → ℕ → List ℕ → ℕ
open_source phys phy frame = cond (participating phys phy) (group_of (get_or frame 20 0)) (phy_group phys phy)

-- "Outcomes in order": 1 and 2, 3, 4. "BAD DESTINATION is given when the phy found is in the arriving phy's port."
unfoldable pub judge : ℕ → List ℕ → List ℕ → ℕ → List ℕ → Option Destination → Opened
judge w phys permissions phy frame None = NoDestination
judge w phys permissions phy frame (Some d) =
    cond (same_port phys phy d.phy.0) BadDestination
    (cond (reaches w permissions (open_source phys phy frame) d.group.0) (Forward d.phy) ZoneViolation)

-- the outcome of an OPEN that is not refused
abbrev pub opened : ℕ → List ℕ → List ℕ → List ℕ → ℕ → List ℕ → Opened
opened w phys routes permissions phy frame = judge w phys permissions phy frame (search phys routes frame)

-- "bit 7 is the carried bit (from a participating phy) or is one exactly if the arriving phy's priority is above 0 (otherwise)"
abbrev pub manages : List ℕ → ℕ → List ℕ → ℕ
manages phys phy frame = cond (participating phys phy) (get_or frame 20 0 / 128) (num (ltb 0 (phy_priority phys phy)))

-- "Towards a participating phy the low 7 bits are the source group, and bit 7 is .. Towards other phys byte 20 is zero."
unfoldable pub byte20 : List ℕ → ℕ → List ℕ → ℕ → ℕ
byte20 phys phy frame p = cond (participating phys p) (manages phys phy frame * 128 + open_source phys phy frame) 0

-- "write 28 bytes: the frame with byte 20 changed"; "Outcomes 1 to 3 write no frame."
unfoldable pub sent : List ℕ → ℕ → List ℕ → List ℕ → Opened → List ℕ
sent phys phy frame buffer NoDestination = buffer
sent phys phy frame buffer BadDestination = buffer
sent phys phy frame buffer ZoneViolation = buffer
sent phys phy frame buffer (Forward p) = set frame 20 (byte20 phys phy frame p.0) ++ drop 28 buffer

-- the buffers: the frame buffer
abbrev pub open_out : ℕ → List ℕ → List ℕ → List ℕ → ℕ → List ℕ → List ℕ → Out
open_out w phys routes permissions phy frame buffer =
    outcome (first_refusal (open_checks w phys routes permissions phy frame (room_for buffer)))
    (values_of (opened w phys routes permissions phy frame))
    (buffer ∷ [])
    (sent phys phy frame buffer (opened w phys routes permissions phy frame) ∷ [])
