-- Request 09's sentences, and DISCOVER on this shelf, as rows of a single statement about the definitions at w = 1: on the bench rack, whose phys 0 to 7 are in the groups
-- 1, 2, 8, 8, 9, 9, 0 and 1, with a permission table of 8 bytes.
use Rattle.std.specs.Prelude.{◌≡◌, List, [], ◌∷◌, ◌++◌, ℕ, ◌+◌, get_or, take, drop, replicate}
use Rattle.permit.specs.Permission.{start_table}
use Rattle.tables.specs.Outcome.{refusal, answer, Out, out}
use Rattle.links.specs.Links.{start_up_out}
use Rattle.opens.specs.Open.{open_out}
use Rattle.broadcasts.specs.Broadcasts.{primitive_out}
use Rattle.smp.specs.Smp.{smp_out}
use Rattle.rack.specs.Rack.{rack_table}
use Rattle.shelf.specs.Calls.{answer_of, buffer_of}

-- a table in which every group reaches every group
unfoldable pub all_on : List ℕ
all_on = replicate 8 255

-- an SMP request from a phy of the rack
unfoldable pub asks : List ℕ → ℕ → List ℕ → Out
asks t phy request = smp_out 1 rack_table t phy 0 (record { expander = 0; phy = 0 }) request (replicate 1020 0) (replicate 16 0)

-- from phy 0, in group 1, after start-up
unfoldable pub fresh : List ℕ → Out
fresh request = asks (start_table 1) 0 request

-- an OPEN from a phy to the address of phy k, where every group reaches every group
unfoldable pub opens : ℕ → ℕ → Out
opens phy last =
    open_out 1 rack_table [] all_on phy
    (1 ∷ 0 ∷ 0 ∷ 0 ∷ (0x50 ∷ 0 ∷ 0 ∷ 0 ∷ 0 ∷ 0 ∷ 0 ∷ last ∷ []) ++ replicate 16 0) (replicate 28 0)

-- primitive 0 on a phy, where every group reaches every group
unfoldable pub changes : ℕ → Out
changes phy = primitive_out 1 rack_table all_on phy 0 (replicate 16 0) (replicate 28 0)

-- a single order that switches a and b on
abbrev pub single : ℕ → ℕ → List ℕ
single a b = 0x40 ∷ 0xc1 ∷ 0 ∷ 2 ∷ 0 ∷ 0 ∷ a ∷ (0x80 + b) ∷ 0 ∷ 0x80 ∷ 0 ∷ 0 ∷ []

-- a batch with `start`, k and its rows
abbrev pub batch : ℕ → ℕ → ℕ → List ℕ → List ℕ
batch dwords start k rows = 0x40 ∷ 0xc1 ∷ 0 ∷ dwords ∷ 0 ∷ 0 ∷ 0 ∷ 0 ∷ 0 ∷ 0x90 ∷ start ∷ k ∷ rows

abbrev pub report : ℕ → ℕ → List ℕ
report start k = 0x40 ∷ 0x51 ∷ 0 ∷ 1 ∷ 0 ∷ 0 ∷ start ∷ k ∷ []

-- one descriptor for the phy `start`
abbrev pub phy_zone : ℕ → ℕ → List ℕ
phy_zone start group = 0x40 ∷ 0x93 ∷ 0 ∷ 2 ∷ 0 ∷ 0 ∷ start ∷ 1 ∷ 0 ∷ group ∷ 0 ∷ 0 ∷ []

-- a DISCOVER with the ignore bit zero
abbrev pub discover : ℕ → List ℕ
discover phy = 0x40 ∷ 0x10 ∷ 0 ∷ 2 ∷ 0 ∷ 0 ∷ 0 ∷ 0 ∷ 0 ∷ phy ∷ 0 ∷ 0 ∷ []

-- a row of document 01's sixteen bytes, of which the last is x
abbrev pub row_of : ℕ → List ℕ
row_of x = replicate 15 0 ++ x ∷ []

abbrev pub Cases : Type 0
Cases =
    -- "one byte a row, bit j for group j"; "Start-up follows document 01 for these eight."
    (start_table 1 ≡ 2 ∷ 255 ∷ 2 ∷ 2 ∷ 2 ∷ 2 ∷ 2 ∷ 2 ∷ [])
    × (start_up_out 1 (replicate 8 0) ≡ out (answer []) (start_table 1 ∷ []))
    -- "The permission table must be 8 bytes, else 1."
    × (answer_of (start_up_out 1 (replicate 7 0)) ≡ refusal 1)
    × (answer_of (start_up_out 1 (replicate 2048 0)) ≡ refusal 1)
    × (answer_of (asks (replicate 2048 255) 0 (single 2 3)) ≡ refusal 1)
    -- a single order, written to both places
    × (answer_of (fresh (single 2 3)) ≡ answer (0x00 ∷ 4 ∷ 0 ∷ []))
    × (buffer_of 1 (fresh (single 2 3)) ≡ 2 ∷ 255 ∷ 10 ∷ 6 ∷ 2 ∷ 2 ∷ 2 ∷ 2 ∷ [])
    -- "here a single, batch row or descriptor naming a group above 7 answers 02h"
    × (answer_of (fresh (single 7 8)) ≡ answer (0x02 ∷ 4 ∷ 0 ∷ []))
    × (answer_of (fresh (single 8 7)) ≡ answer (0x02 ∷ 4 ∷ 0 ∷ []))
    × (answer_of (fresh (batch 6 8 1 (replicate 16 0))) ≡ answer (0x02 ∷ 4 ∷ 0 ∷ []))
    × (answer_of (fresh (batch 10 7 2 (replicate 32 0))) ≡ answer (0x02 ∷ 4 ∷ 0 ∷ []))
    × (answer_of (fresh (phy_zone 2 7)) ≡ answer (0x00 ∷ 4 ∷ 8 ∷ []))
    × (answer_of (fresh (phy_zone 2 8)) ≡ answer (0x02 ∷ 4 ∷ 0 ∷ []))
    -- "after all present results": 01h, 11h and 10h; a batch of no rows names none
    × (answer_of (asks (start_table 1) 2 (single 7 8)) ≡ answer (0x01 ∷ 4 ∷ 0 ∷ []))
    × (answer_of (fresh (batch 6 128 1 (replicate 16 0))) ≡ answer (0x11 ∷ 4 ∷ 0 ∷ []))
    × (answer_of (fresh (phy_zone 8 8)) ≡ answer (0x10 ∷ 4 ∷ 0 ∷ []))
    × (answer_of (fresh (batch 2 100 0 [])) ≡ answer (0x00 ∷ 4 ∷ 0 ∷ []))
    -- "bits for them in a batch row are ignored": sixteen bytes FFh for group 2
    × (buffer_of 1 (fresh (batch 6 2 1 (replicate 16 255))) ≡ 2 ∷ 255 ∷ 254 ∷ 6 ∷ 6 ∷ 6 ∷ 6 ∷ 6 ∷ [])
    -- "Groups 8 to 127 reach only group 1 and are reached only by it": an OPEN from 8 to 9, 8 to 8, 8 to 2, 2 to 9, 8 to 1 and 1 to 9
    × ((answer_of (opens 2 0x14) ≡ answer (3 ∷ [])) × (answer_of (opens 2 0x13) ≡ answer (3 ∷ [])) × (answer_of (opens 2 0x11) ≡ answer (3 ∷ [])))
    × (answer_of (opens 1 0x14) ≡ answer (3 ∷ []))
    × ((answer_of (opens 2 0x10) ≡ answer (4 ∷ 0 ∷ [])) × (answer_of (opens 0 0x14) ≡ answer (4 ∷ 4 ∷ [])))
    -- a primitive on phy 2, of group 8, goes to the phys of group 1; on phy 1, of group 2, to those of groups 0 and 1; on phy 0 to all others
    × ((get_or (buffer_of 0 (changes 2)) 0 0 ≡ 0x81) × (get_or (buffer_of 0 (changes 1)) 0 0 ≡ 0xc1) × (get_or (buffer_of 0 (changes 0)) 0 0 ≡ 0xfe))
    -- "Reports show P in document 01's rows": rows 0, 1 and 2, and rows 7 and 8
    × (answer_of (fresh (report 0 3)) ≡ answer (0x00 ∷ 60 ∷ 0 ∷ []))
    × (take 48 (drop 12 (buffer_of 2 (fresh (report 0 3)))) ≡ row_of 2 ++ replicate 16 255 ++ row_of 2)
    × (take 32 (drop 12 (buffer_of 2 (asks all_on 0 (report 7 2)))) ≡ row_of 255 ++ row_of 2)
    -- DISCOVER asks this shelf's P: where every group reaches every group, of a phy in group 9 from group 8 and from group 2, of a phy in group 8
    -- from its own group, all hidden; from group 1 shown, and of a phy in group 1 from group 8
    × ((answer_of (asks all_on 2 (discover 4)) ≡ answer (0x16 ∷ 4 ∷ 0 ∷ [])) × (answer_of (asks all_on 1 (discover 4)) ≡ answer (0x16 ∷ 4 ∷ 0 ∷ [])))
    × (answer_of (asks all_on 2 (discover 3)) ≡ answer (0x16 ∷ 4 ∷ 0 ∷ []))
    × ((answer_of (asks all_on 0 (discover 4)) ≡ answer (0x00 ∷ 108 ∷ 0 ∷ [])) × (answer_of (asks all_on 2 (discover 0)) ≡ answer (0x00 ∷ 108 ∷ 0 ∷ [])))
    -- and of a phy in group 2 from its own group, after start-up hidden and here shown
    × ((answer_of (asks (start_table 1) 1 (discover 1)) ≡ answer (0x16 ∷ 4 ∷ 0 ∷ [])) × (answer_of (asks all_on 1 (discover 1)) ≡ answer (0x00 ∷ 108 ∷ 0 ∷ [])))
