-- Start-up, and "Links": a phy leaves the ready state, or IDENTIFY arrives.
use Rattle.std.specs.Prelude.{Bool, true, false, cond, not, ◌&&◌, List, [], ◌∷◌, ◌++◌, ℕ, ◌+◌, ◌*◌, ◌/◌, ◌%◌, eqb, set, Result, ⊤}
use Rattle.std.proofs.Math.Seq.{paste}
use Rattle.wire.specs.Address.{address_at}
use Rattle.tables.specs.Refusals.{Check, refuse, same, off, first_refusal}
use Rattle.tables.specs.Outcome.{Answer, Out, outcome}
use Rattle.tables.specs.Numbers.{answered}
use Rattle.tables.specs.declared.refusal.Refusal.{Refusal}
use Rattle.tables.specs.Phys.{phy_record, phy_byte, phy_address, known, zoned}
use Rattle.tables.specs.Arrival.{arrival_checks}
use Rattle.permit.specs.Permission.{permissions_sized, start_table}

-- the answer in document 01's numbers: start-up and link events give no values
abbrev pub linked_as : Result ⊤ Refusal → Answer
linked_as = answered (λ _. [])

-- start-up: refusal 1
abbrev pub start_up_checks : ℕ → List ℕ → List Check
start_up_checks w permissions = refuse 1 (off (permissions_sized w permissions)) ∷ []

-- "Start-up writes the permission table"; the buffers: the permission table
abbrev pub start_up_out : ℕ → List ℕ → Out
start_up_out w permissions = outcome (first_refusal (start_up_checks w permissions)) [] (permissions ∷ []) (start_table w ∷ [])

-- leaving: refusals 1, 2, 7; it uses no other table and writes no buffer
abbrev pub leaving_checks : List ℕ → ℕ → List Check
leaving_checks phys phy = arrival_checks phys phy true true true

-- "Leaving ready clears bit 0 of byte 2 and keeps bit 1." "Both write bits 7 to 2 of byte 2 as zero." "Byte 3 stays."
abbrev pub left : List ℕ → ℕ → List ℕ
left phys phy = set phys (phy_record * phy + 2) (phy_byte phys phy 2 / 2 % 2 * 2)

-- the buffers: the phy table
abbrev pub leaving_out : List ℕ → ℕ → Out
leaving_out phys phy = outcome (first_refusal (leaving_checks phys phy)) [] (phys ∷ []) (left phys phy ∷ [])

-- IDENTIFY: refusals 1, 2, 7 ("for IDENTIFY, already ready"); it uses no other table and writes no buffer
abbrev pub identify_front : List ℕ → ℕ → List Check
identify_front phys phy = arrival_checks phys phy true true false

-- and 5 ("IDENTIFY address zero")
abbrev pub identify_checks : List ℕ → ℕ → List ℕ → List Check
identify_checks phys phy address = identify_front phys phy ++ refuse 5 (same (address_at address 0) 0) ∷ []

-- "If an address was known and differs"
abbrev pub moved : List ℕ → ℕ → List ℕ → Bool
moved phys phy address = known phys phy && not (eqb (phy_address phys phy) (address_at address 0))

-- "bytes 0 and 1 become zero; otherwise bytes 0 and 1 stay"
abbrev pub unzoned : List ℕ → ℕ → List ℕ → List ℕ
unzoned phys phy address = cond (moved phys phy address) (zoned phys phy 0 0) phys

-- "IDENTIFY sets both bits and stores the address." "Both write bits 7 to 2 of byte 2 as zero." "Byte 3 stays."; document 02, request 03:
-- "12 device type, 13 attached phy", "IDENTIFY hands in the first two (the type's low 3 bits)"
unfoldable pub identified : List ℕ → ℕ → List ℕ → ℕ → ℕ → List ℕ
identified phys phy address device attached =
    paste
    (set (set (set (unzoned phys phy address) (phy_record * phy + 2) 3) (phy_record * phy + 12) (device % 8)) (phy_record * phy + 13) attached)
    (phy_record * phy + 4) address 8

abbrev pub identify_out : List ℕ → ℕ → List ℕ → ℕ → ℕ → Out
identify_out phys phy address device attached =
    outcome (first_refusal (identify_checks phys phy address)) [] (phys ∷ []) (identified phys phy address device attached ∷ [])
