-- "Broadcasts": a primitive, or a broadcast frame, arrives on a phy. w is the permission table's row width in bytes.
use Rattle.std.specs.Prelude.{Bool, true, cond, not, ◌&&◌, List, [], ◌∷◌, ◌++◌, ℕ, ◌+◌, ◌*◌, ◌/◌, ◌%◌, eqb, leb, length, get_or, drop, Result}
use Rattle.wire.specs.Bits.{tab}
use Rattle.wire.specs.Groups.{outside_group, is_group}
use Rattle.wire.specs.PhySet.{phys_in}
use Rattle.permit.specs.Permission.{permissions_sized}
use Rattle.tables.specs.Refusals.{Check, refuse, below, same, differ, off, on, first_refusal}
use Rattle.tables.specs.Outcome.{Answer, Out, outcome}
use Rattle.tables.specs.Numbers.{answered}
use Rattle.tables.specs.declared.refusal.Refusal.{Refusal}
use Rattle.tables.specs.Phys.{phy_group, participating}
use Rattle.tables.specs.Arrival.{arrival_checks}
use Rattle.told_set.specs.ToldSet.{told_set}

-- the answer in document 01's numbers
abbrev pub told_as : Result ℕ Refusal → Answer
told_as = answered (λ n. n ∷ [])

-- "a type 2h frame, written whole at every answer 0: byte 0 the number times 16 plus 2, byte 3 the source group, the other 26 bytes zero"
-- Its byte k:
unfoldable pub frame_byte : ℕ → ℕ → ℕ → ℕ
frame_byte number source k = cond (eqb k 0) (number * 16 + 2) (cond (eqb k 3) source 0)

unfoldable pub frame_of : ℕ → ℕ → List ℕ
frame_of number source = tab (frame_byte number source) 0 28

-- what both calls give, where n is the first refusal; the buffers: the phy set and the frame buffer
abbrev pub announced : ℕ → ℕ → List ℕ → List ℕ → ℕ → ℕ → ℕ → List ℕ → List ℕ → Out
announced w n phys permissions phy source number set frame =
    outcome n
    (phys_in (told_set w phys permissions phy source) ∷ [])
    (set ∷ frame ∷ [])
    ((told_set w phys permissions phy source ++ drop 16 set) ∷ (frame_of number source ++ drop 28 frame) ∷ [])

-- "phy set under 16, or frame buffer under 28": whether there is room for both
abbrev pub room_for : List ℕ → List ℕ → Bool
room_for set frame = leb 16 (length set) && leb 28 (length frame)

-- refusals 1, 2, 3, 7, and 5 ("primitive number over 7")
abbrev pub primitive_checks : ℕ → List ℕ → List ℕ → ℕ → ℕ → Bool → List Check
primitive_checks w phys permissions phy number room =
    arrival_checks phys phy (permissions_sized w permissions) room true ++ refuse 5 (below 7 number) ∷ []

-- "The source group of a primitive .. is the phy record's group."
abbrev pub primitive_out : ℕ → List ℕ → List ℕ → ℕ → ℕ → List ℕ → List ℕ → Out
primitive_out w phys permissions phy number set frame =
    announced w (first_refusal (primitive_checks w phys permissions phy number (room_for set frame)))
    phys permissions phy (phy_group phys phy) number set frame

-- "Types are the low 4 bits of byte 0."
abbrev pub type_of : List ℕ → ℕ
type_of arrived = get_or arrived 0 0 % 16

-- "broadcast frame not 28 for type 2h, 4 for type 3h (an empty one is 4; another type is 5)": the length that its type asks for
unfoldable pub typed_length : List ℕ → ℕ
typed_length arrived = cond (eqb (type_of arrived) 2) 28 (cond (eqb (type_of arrived) 3) 4 (length arrived))

-- refusals 4 and 5 ("broadcast type not 2h or 3h")
abbrev pub type_checks : List ℕ → List Check
type_checks arrived =
    refuse 4 (same (length arrived) 0)
    ∷ refuse 4 (differ (length arrived) (typed_length arrived))
    ∷ refuse 5 (below (type_of arrived) 2)
    ∷ refuse 5 (below 3 (type_of arrived))
    ∷ []

-- "A frame carries it in byte 0 bits 6..4."
abbrev pub frame_number : List ℕ → ℕ
frame_number arrived = get_or arrived 0 0 / 16 % 8

-- "on a participating phy, it is the group carried": in a broadcast frame byte 3, where that is a group
abbrev pub frame_source : List ℕ → ℕ
frame_source arrived = get_or arrived 3 0

-- document 02, request 02: a frame byte above 127, "on a participating phy, is refusal 5, after the present causes of 5"; and 6 ("broadcast
-- frame on a phy that is not participating")
abbrev pub carried_checks : List ℕ → ℕ → List ℕ → List Check
carried_checks phys phy arrived =
    refuse 5 (on (participating phys phy && not (is_group (outside_group (frame_source arrived)))))
    ∷ refuse 6 (off (participating phys phy))
    ∷ []

-- refusals 1, 2, 3, 7, then 4 and 5, and 5 and 6
abbrev pub frame_checks : ℕ → List ℕ → List ℕ → ℕ → List ℕ → Bool → List Check
frame_checks w phys permissions phy arrived room =
    arrival_checks phys phy (permissions_sized w permissions) room true ++ (type_checks arrived ++ carried_checks phys phy arrived)

abbrev pub broadcast_out : ℕ → List ℕ → List ℕ → ℕ → List ℕ → List ℕ → List ℕ → Out
broadcast_out w phys permissions phy arrived set frame =
    announced w (first_refusal (frame_checks w phys permissions phy arrived (room_for set frame)))
    phys permissions phy (frame_source arrived) (frame_number arrived) set frame
