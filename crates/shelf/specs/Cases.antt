-- Cases 1 to 12 of document 01, and DISCOVER of document 02, as rows of a single statement about the definitions.
use Rattle.std.specs.Prelude.{◌≡◌, true, false, List, [], ◌∷◌, ◌++◌, ℕ, ◌*◌, get_or, take, drop, replicate}
use Rattle.permit.specs.Permission.{P, set_P, start_table}
use Rattle.tables.specs.Outcome.{answer, Out}
use Rattle.tables.specs.Phys.{phy_record}
use Rattle.links.specs.Links.{left, identified}
use Rattle.opens.specs.Open.{open_out}
use Rattle.broadcasts.specs.Broadcasts.{primitive_out}
use Rattle.smp.specs.Smp.{smp_out}
use Rattle.rack.specs.Rack.{rack_table}
use Rattle.shelf.specs.Calls.{answer_of, buffer_of}

-- an SMP request from a phy of the bench rack, with the permission table t
unfoldable pub asks : List ℕ → ℕ → List ℕ → Out
asks t phy request = smp_out 16 rack_table t phy 0 (record { expander = 0; phy = 0 }) request (replicate 1020 0) (replicate 16 0)

-- from phy 0, on a fresh rack
unfoldable pub fresh : List ℕ → Out
fresh request = asks (start_table 16) 0 request

-- "40 C1 00 02 00 00 08 89 00 81 00 00": a single order that switches 8 and 9 on
unfoldable pub single89 : List ℕ
single89 = 0x40 ∷ 0xc1 ∷ 0 ∷ 2 ∷ 0 ∷ 0 ∷ 8 ∷ 0x89 ∷ 0 ∷ 0x81 ∷ 0 ∷ 0 ∷ []

-- the permission table after case 1
unfoldable pub after1 : List ℕ
after1 = buffer_of 1 (fresh single89)

-- an OPEN from phy 2 to the address that ends in `last`
unfoldable pub opens2 : ℕ → Out
opens2 last =
    open_out 16 rack_table [] after1 2
    (1 ∷ 0 ∷ 0 ∷ 0 ∷ (0x50 ∷ 0 ∷ 0 ∷ 0 ∷ 0 ∷ 0 ∷ 0 ∷ last ∷ []) ++ replicate 16 0) (replicate 28 0)

-- primitive 0 on phy 2
unfoldable pub changes2 : Out
changes2 = primitive_out 16 rack_table after1 2 0 (replicate 16 0) (replicate 28 0)

-- 93h with `start`, k and the bytes behind
unfoldable pub phy_zone : ℕ → ℕ → ℕ → List ℕ → List ℕ
phy_zone dwords start k rest = 0x40 ∷ 0x93 ∷ 0 ∷ dwords ∷ 0 ∷ 0 ∷ start ∷ k ∷ rest

-- a batch with `start`, k and its rows
unfoldable pub batch : ℕ → ℕ → ℕ → List ℕ → List ℕ
batch dwords start k rows = 0x40 ∷ 0xc1 ∷ 0 ∷ dwords ∷ 0 ∷ 0 ∷ 0 ∷ 0 ∷ 0 ∷ 0x90 ∷ start ∷ k ∷ rows

-- "Rows 8 and 9, 8 saying 9 on, 9 saying 8 off": group 9 is bit 1 of byte 14
unfoldable pub rows89 : List ℕ
rows89 = batch 10 8 2 (replicate 14 0 ++ (2 ∷ 0 ∷ []) ++ replicate 16 0)

-- a DISCOVER: byte 8, and the phy
unfoldable pub discover : ℕ → ℕ → List ℕ
discover ignore phy = 0x40 ∷ 0x10 ∷ 0 ∷ 2 ∷ 0 ∷ 0 ∷ 0 ∷ 0 ∷ ignore ∷ phy ∷ 0 ∷ 0 ∷ []

-- a table that this software never makes: one way only
unfoldable pub one_way : List ℕ
one_way = set_P 16 (start_table 16) 8 9 true

-- the 108 bytes with both counts zero: phy, device type, attached address and phy, byte 60, group
abbrev pub shows : ℕ → ℕ → List ℕ → ℕ → ℕ → ℕ → List ℕ
shows phy device address attached zoning group =
    0x41 ∷ 0x10 ∷ 0x00 ∷ 0x1a ∷ replicate 5 0 ++ phy ∷ 0 ∷ 0 ∷ device ∷ replicate 11 0 ++ address ++ attached ∷ replicate 27 0
    ++ zoning ∷ 0 ∷ 0 ∷ group ∷ replicate 44 0

-- the rack after phy 5's disk left and IDENTIFY brought another device: type FAh, of which 2 is kept, address 50h, six zeros, 99h, its phy 3
unfoldable pub visitor : List ℕ
visitor = identified (left rack_table 5) 5 (0x50 ∷ 0 ∷ 0 ∷ 0 ∷ 0 ∷ 0 ∷ 0 ∷ 0x99 ∷ []) 0xfa 3

-- DISCOVER of phy 5 from phy 0 with that phy table, and counts 1234h and 56h
unfoldable pub visits : List ℕ → Out
visits phys = smp_out 16 phys (start_table 16) 0 0 (record { expander = 0x1234; phy = 0x56 }) (discover 0 5) (replicate 1020 0) (replicate 16 0)

abbrev pub Cases : Type 0
Cases =
    -- 1 to 5, in order: `1 S 00 4 8`, `2 O FWD 4`, `3 O ZV`, `4 B 4` (set byte 0 is B1h), `5 S 01 4 0`
    (answer_of (fresh single89) ≡ answer (0x00 ∷ 4 ∷ 8 ∷ []))
    × ((P 16 after1 8 9 ≡ true) × (P 16 after1 9 8 ≡ true))
    × (answer_of (opens2 0x14) ≡ answer (4 ∷ 4 ∷ []))
    × (answer_of (opens2 0x11) ≡ answer (3 ∷ []))
    × (answer_of changes2 ≡ answer (4 ∷ []))
    × (get_or (buffer_of 0 changes2) 0 0 ≡ 0xb1)
    × (answer_of (asks after1 2 single89) ≡ answer (0x01 ∷ 4 ∷ 0 ∷ []))
    -- (6) "93h, phy 0, start 7, k 1 with 00 09: 00h; start 8, k 0: 00h; (7) start 8, k 1: 10h."
    × (answer_of (fresh (phy_zone 2 7 1 (0 ∷ 9 ∷ 0 ∷ 0 ∷ []))) ≡ answer (0x00 ∷ 4 ∷ 8 ∷ []))
    × (take 2 (drop (phy_record * 7) (buffer_of 0 (fresh (phy_zone 2 7 1 (0 ∷ 9 ∷ 0 ∷ 0 ∷ []))))) ≡ 0 ∷ 9 ∷ [])
    × (answer_of (fresh (phy_zone 1 8 0 [])) ≡ answer (0x00 ∷ 4 ∷ 8 ∷ []))
    × (answer_of (fresh (phy_zone 2 8 1 (0 ∷ 9 ∷ 0 ∷ 0 ∷ []))) ≡ answer (0x10 ∷ 4 ∷ 0 ∷ []))
    -- "(8) Batch from phy 0, start 127, k 1: 00h; (9) start 128, k 1: 11h."
    × (answer_of (fresh (batch 6 127 1 (replicate 16 0))) ≡ answer (0x00 ∷ 4 ∷ 0 ∷ []))
    × (answer_of (fresh (batch 6 128 1 (replicate 16 0))) ≡ answer (0x11 ∷ 4 ∷ 0 ∷ []))
    -- "(10) Rows 8 and 9, 8 saying 9 on, 9 saying 8 off: off."
    × (answer_of (fresh rows89) ≡ answer (0x00 ∷ 4 ∷ 0 ∷ []))
    × ((P 16 (buffer_of 1 (fresh rows89)) 8 9 ≡ false) × (P 16 (buffer_of 1 (fresh rows89)) 9 8 ≡ false))
    -- "(11) Report from 127, 5 rows: one row, byte 3 is 6."
    × (answer_of (fresh (0x40 ∷ 0x51 ∷ 0 ∷ 1 ∷ 0 ∷ 0 ∷ 127 ∷ 5 ∷ [])) ≡ answer (0x00 ∷ 28 ∷ 0 ∷ []))
    × (take 8 (buffer_of 2 (fresh (0x40 ∷ 0x51 ∷ 0 ∷ 1 ∷ 0 ∷ 0 ∷ 127 ∷ 5 ∷ []))) ≡ 0x41 ∷ 0x51 ∷ 0 ∷ 6 ∷ 0 ∷ 0 ∷ 127 ∷ 1 ∷ [])
    -- "(12) Single 1, 8: 02h."
    × (answer_of (fresh (0x40 ∷ 0xc1 ∷ 0 ∷ 2 ∷ 0 ∷ 0 ∷ 1 ∷ 0x88 ∷ 0 ∷ 0x81 ∷ 0 ∷ 0 ∷ [])) ≡ answer (0x02 ∷ 4 ∷ 0 ∷ []))
    -- DISCOVER of phy 4 from phy 2: before case 1 it is hidden, after it all 108 bytes; before it they are shown with the ignore bit one
    × (answer_of (asks (start_table 16) 2 (discover 0 4)) ≡ answer (0x16 ∷ 4 ∷ 0 ∷ []))
    × (answer_of (asks after1 2 (discover 0 4)) ≡ answer (0x00 ∷ 108 ∷ 0 ∷ []))
    × (take 108 (buffer_of 2 (asks after1 2 (discover 0 4))) ≡ shows 4 0 (0x50 ∷ 0 ∷ 0 ∷ 0 ∷ 0 ∷ 0 ∷ 0 ∷ 0x14 ∷ []) 0 1 9)
    × (take 108 (buffer_of 2 (asks (start_table 16) 2 (discover 1 4))) ≡ shows 4 0 (0x50 ∷ 0 ∷ 0 ∷ 0 ∷ 0 ∷ 0 ∷ 0 ∷ 0x14 ∷ []) 0 1 9)
    -- of phy 8, which is not there; and of phy 2 itself, whose group does not reach itself
    × (answer_of (asks after1 2 (discover 0 8)) ≡ answer (0x10 ∷ 4 ∷ 0 ∷ []))
    × (answer_of (asks after1 2 (discover 0 2)) ≡ answer (0x16 ∷ 4 ∷ 0 ∷ []))
    -- P is asked from the source to the phy: in a table that lets 8 reach 9 and not 9 reach 8, phy 2 is shown phy 4, and phy 4 is not shown phy 2
    × ((answer_of (asks one_way 2 (discover 0 4)) ≡ answer (0x00 ∷ 108 ∷ 0 ∷ [])) × (answer_of (asks one_way 4 (discover 0 2)) ≡ answer (0x16 ∷ 4 ∷ 0 ∷ [])))
    -- of phy 7, which participates, from phy 0
    × (take 108 (buffer_of 2 (fresh (discover 0 7))) ≡ shows 7 0 (0x50 ∷ 0 ∷ 0 ∷ 0 ∷ 0 ∷ 0 ∷ 0 ∷ 0x17 ∷ []) 0 3 1)
    -- of a phy where IDENTIFY brought a device of type 2: the counts, the type, the address and its phy; the disk before was another, so the
    -- group is 0. Once it has left again, the counts and the group alone.
    × (take 64 (buffer_of 2 (visits visitor))
    ≡ 0x41 ∷ 0x10 ∷ 0 ∷ 0x1a ∷ 0x12 ∷ 0x34 ∷ 0 ∷ 0 ∷ 0 ∷ 5 ∷ 0 ∷ 0 ∷ 0x20 ∷ replicate 11 0
    ++ 0x50 ∷ 0 ∷ 0 ∷ 0 ∷ 0 ∷ 0 ∷ 0 ∷ 0x99 ∷ 3 ∷ replicate 9 0 ++ 0x56 ∷ replicate 17 0 ++ 1 ∷ 0 ∷ 0 ∷ 0 ∷ [])
    × (take 64 (buffer_of 2 (visits (left visitor 5)))
    ≡ 0x41 ∷ 0x10 ∷ 0 ∷ 0x1a ∷ 0x12 ∷ 0x34 ∷ 0 ∷ 0 ∷ 0 ∷ 5 ∷ replicate 32 0 ++ 0x56 ∷ replicate 17 0 ++ 1 ∷ 0 ∷ 0 ∷ 0 ∷ [])

-- Shut out by name: "handling the first batch row or descriptor and only reporting the rest". Of rows 8 and 9 the second says 10 on; of the
-- descriptors for phys 1 and 2 the second says group 4.
abbrev pub LaterToo : Type 0
LaterToo =
    (P 16 (buffer_of 1 (fresh (batch 10 8 2 (replicate 16 0 ++ replicate 14 0 ++ 4 ∷ 0 ∷ [])))) 9 10 ≡ true)
    × (take 2 (drop (phy_record * 2) (buffer_of 0 (fresh (phy_zone 2 1 2 (0 ∷ 3 ∷ 0 ∷ 4 ∷ []))))) ≡ 0 ∷ 4 ∷ [])
