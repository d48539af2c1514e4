-- Request 04 on worked shelves of either width w: a pair of shelves that are alike to their caller; for each premise that could be thought idle a pair that
-- breaks it alone and gets other bytes; and what tells the first pair apart all the same, since the theorem does not speak of it.
use Rattle.std.specs.Prelude.{◌≡◌, true, false, List, [], ◌∷◌, ◌++◌, ℕ, ◌+◌, ◌*◌, get_or, set, replicate}
use Rattle.permit.specs.Permission.{set_P, set_both, start_table}
use Rattle.tables.specs.Outcome.{Answer, answer}
use Rattle.tables.specs.Phys.{phy_record}
use Rattle.discover.specs.declared.Changes.{Changes}
use Rattle.discover.specs.Discover.{ignores_groups}
use Rattle.rules.specs.Rules.{function_of}
use Rattle.rack.specs.Rack.{rack_table}
use Rattle.shelf.specs.Calls.{opening, outcome_of, answer_of, buffer_of}
use Rattle.shelf.specs.Cases.{discover}
use Rattle.shelf.specs.Promises.{Shelf, Premise, none, sizes, counts, buffers, readiness, permission, records, Alike, gets}

-- byte k of phy i's record is x
abbrev pub put : ℕ → ℕ → ℕ → List ℕ → List ℕ
put i k x phys = set phys (phy_record * i + k) x

-- ---- The shelf

-- the bench rack, zoned for two members: a host on phy 1 in group 4, and its disks on phys 4 and 5 in group 5, of which phy 5 is not ready; the neighbour's
-- host on phy 2 in group 6 and disk on phy 3 in group 8; the co-operative's own on phys 0 and 7 in group 1, where the joined shelf on phy 7 participates
unfoldable pub members : List ℕ
members = put 1 1 4 (put 2 1 6 (put 4 1 5 (put 5 1 5 (put 5 2 2 rack_table))))

-- permissions after start-up and one order, that groups 4 and 5 may reach each other
unfoldable pub ordered : ℕ → List ℕ
ordered w = set_both w (start_table w) 4 5 true

abbrev pub no_changes : Changes
no_changes = record { expander = 0; phy = 0 }

-- a response buffer as it was lent, all bytes x
abbrev pub filled : ℕ → List ℕ
filled x = replicate 1020 x

-- a shelf with these tables and counts, its caller on `phy` with the group `carried`, and the buffers that are lent
abbrev pub shelf_of : List ℕ → List ℕ → Changes → ℕ → ℕ → List ℕ → Shelf
shelf_of phys permissions changes phy carried response = record {
  phys = phys;
  permissions = permissions;
  changes = changes;
  phy = phy;
  carried = carried;
  response = response;
  set = replicate 16 0;
}

-- these, and a caller
unfoldable pub here : ℕ → ℕ → ℕ → Shelf
here w phy carried = shelf_of members (ordered w) no_changes phy carried (filled 0)

-- ---- "one worked pair of different shelves": all that a host of group 4 may not know of is another

-- the neighbour's host on phy 2 has another group, address, device type and attached phy, its disk on phy 3 is not ready; and of the caller's own phy 1,
-- whose group does not reach itself, priority and address are others
unfoldable pub neighbours : List ℕ
neighbours = put 2 1 9 (put 2 11 0x99 (put 2 12 2 (put 2 13 5 (put 3 2 2 (put 1 0 15 (put 1 11 0x77 members))))))

-- groups 6 and 7 may reach each other too, and group 5 may not reach group 4
unfoldable pub reordered : ℕ → List ℕ
reordered w = set_P w (set_both w (ordered w) 6 7 true) 5 4 false

-- these, and the same caller
unfoldable pub elsewhere : ℕ → ℕ → ℕ → Shelf
elsewhere w phy carried = shelf_of neighbours (reordered w) no_changes phy carried (filled 0)

-- the theorem applies to them, and so no DISCOVER with the ignore bit zero tells them apart
abbrev pub Pair : ℕ → ℕ → ℕ → Type 0
Pair w phy carried =
    Alike none w (here w phy carried) (elsewhere w phy carried)
    × ((request : List ℕ) → function_of request ≡ 0x10 → ignores_groups request ≡ false
    → gets w (here w phy carried) request ≡ gets w (elsewhere w phy carried) request)

-- the caller is the host on phy 1, or a host of group 4 behind the joined shelf on phy 7
abbrev pub Pairs : ℕ → Type 0
Pairs w = Pair w 1 0 × Pair w 7 4

-- ---- No premise is idle: each of these shelves breaks one, beside `here`, to the caller on phy 1

-- phy 4, which is permitted, has another address
unfoldable pub other_address : ℕ → Shelf
other_address w = shelf_of (put 4 11 0x99 members) (ordered w) no_changes 1 0 (filled 0)

-- phy 5, which is permitted and not ready, is in group 1
unfoldable pub other_group : ℕ → Shelf
other_group w = shelf_of (put 5 1 1 members) (ordered w) no_changes 1 0 (filled 0)

-- the order was not given
unfoldable pub no_order : ℕ → Shelf
no_order w = shelf_of members (start_table w) no_changes 1 0 (filled 0)

-- the caller's phy is not ready
unfoldable pub not_ready : ℕ → Shelf
not_ready w = shelf_of (put 1 2 2 members) (ordered w) no_changes 1 0 (filled 0)

-- both counts are others
unfoldable pub other_counts : ℕ → Shelf
other_counts w = shelf_of members (ordered w) (record { expander = 0x0102; phy = 3 }) 1 0 (filled 0)

-- there is one phy more, in group 0, which the caller does not reach
unfoldable pub one_more : ℕ → Shelf
one_more w = shelf_of (members ++ replicate 16 0) (ordered w) no_changes 1 0 (filled 0)

-- the response buffer held other bytes
unfoldable pub other_buffer : ℕ → Shelf
other_buffer w = shelf_of members (ordered w) no_changes 1 0 (filled 1)

-- byte k of the response to a DISCOVER of phy i with this byte 8
unfoldable pub byte_of : ℕ → Shelf → ℕ → ℕ → ℕ → ℕ
byte_of w s ignore i k = get_or (buffer_of 0 (gets w s (discover ignore i))) k 0

-- `other` breaks this premise and no other; and of a DISCOVER of phy i with the ignore bit zero byte k is x here and y there
abbrev pub Tells : Premise → ℕ → Shelf → ℕ → ℕ → ℕ → ℕ → Type 0
Tells broken w other i k x y = Alike broken w (here w 1 0) other × (byte_of w (here w 1 0) 0 i k ≡ x) × (byte_of w other 0 i k ≡ y)

abbrev pub NotIdle : ℕ → Type 0
NotIdle w =
    -- the last byte of the attached address
    Tells records w (other_address w) 4 31 0x14 0x99
    -- the group
    × Tells records w (other_group w) 5 63 5 1
    -- the result
    × Tells permission w (no_order w) 4 2 0x00 0x16
    -- the first byte: refusal 7 writes none
    × Tells readiness w (not_ready w) 4 0 0x41 0
    -- the phy change count
    × Tells counts w (other_counts w) 4 42 0 3
    -- the result, of a phy 8
    × Tells sizes w (one_more w) 8 2 0x10 0x16
    -- a byte behind those written
    × Tells buffers w (other_buffer w) 4 1019 0 1

-- ---- What the theorem does not cover: the pair above, that no DISCOVER with the ignore bit zero tells apart

-- an OPEN from the caller's phy to the address that ends in `last`
unfoldable pub opens : ℕ → Shelf → ℕ → Answer
opens w s last =
    answer_of (outcome_of w (opening s.phys [] s.phy (1 ∷ 0 ∷ 0 ∷ 0 ∷ (0x50 ∷ 0 ∷ 0 ∷ 0 ∷ 0 ∷ 0 ∷ 0 ∷ last ∷ []) ++ replicate 16 0) (replicate 28 0)) s.permissions)

abbrev pub Channels : ℕ → Type 0
Channels w =
    -- with the ignore bit one a DISCOVER shows any phy: the neighbour's address
    ((byte_of w (here w 1 0) 1 2 31 ≡ 0x12) × (byte_of w (elsewhere w 1 0) 1 2 31 ≡ 0x99))
    -- an OPEN tells whether an address is on the shelf: ZONE VIOLATION where it is hidden, NO DESTINATION where it is not there
    × ((opens w (here w 1 0) 0x12 ≡ answer (3 ∷ [])) × (opens w (elsewhere w 1 0) 0x12 ≡ answer (1 ∷ [])))
    × ((opens w (here w 1 0) 0x99 ≡ answer (1 ∷ [])) × (opens w (elsewhere w 1 0) 0x99 ≡ answer (3 ∷ [])))
    -- 10h and 16h tell how many phys there are: phy 7 is the last, phy 6 is hidden, phy 8 is not there
    × ((byte_of w (here w 1 0) 0 7 2 ≡ 0x00) × (byte_of w (here w 1 0) 0 6 2 ≡ 0x16) × (byte_of w (here w 1 0) 0 8 2 ≡ 0x10))

abbrev pub Worked : ℕ → Type 0
Worked w = Pairs w × NotIdle w × Channels w
