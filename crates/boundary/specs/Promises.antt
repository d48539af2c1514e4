-- What is promised of the C boundary itself, beside what its contracts say. The quotes are of include/shelf.h and include/small.h. Proved in proofs/Boundary.antt.
use Rattle.std.specs.Prelude.{◌≡◌, true, false, List, [], ◌∷◌, ℕ, length}
use Rattle.tables.specs.Refusals.{first_refusal}
use Rattle.tables.specs.Outcome.{refusal, out, outcome}
use Rattle.links.specs.Links.{identify_front, identify_out}
use Rattle.discover.specs.declared.Changes.{Changes}
use Rattle.smp.specs.Smp.{room_for, smp_checks, smp_out}
use Rattle.boundary.specs.C.{given, padded, in_c, or_else, bytes_fit, identify_out_c, all_fit, smp_out_c}

-- "A refused call writes no byte of any buffer, and the other fields of its answer are 0.": each contract has on its right side
-- `in_c k (outcome m values old new)`, k the number of other fields and `old` the buffers as they were handed in
abbrev pub RefusedInC : Type 0
RefusedInC =
    (k m : ℕ) (values : List ℕ) (old new : List (List ℕ)) (n : ℕ) (fs : List ℕ) (bs : List (List ℕ))
    → in_c k (outcome m values old new) ≡ given (n ∷ fs) bs → (n ≡ 0 → ⊥) → (fs ≡ padded k []) × (bs ≡ old)

-- the boundary's rows of its own decide nothing where document 01 has the input: an address of eight bytes, numbers that fit
abbrev pub AsDocument01 : Type 0
AsDocument01 =
    ((phys : List ℕ) (phy : ℕ) (address : List ℕ) (device attached : ℕ) → length address ≡ 8 → bytes_fit device attached ≡ true
    → identify_out phys phy address device attached ≡ identify_out_c phys phy address device attached)
    × ((w : ℕ) (phys permissions : List ℕ) (phy carried : ℕ) (changes : Changes) (request response set : List ℕ) → all_fit carried changes ≡ true
    → smp_out w phys permissions phy carried changes request response set ≡ smp_out_c w phys permissions phy carried changes request response set)

-- "1, 2, 7 (already ready), 4 (address_len is not 8)": whatever the bytes and the numbers are
abbrev pub OtherLength : Type 0
OtherLength =
    (phys : List ℕ) (phy : ℕ) (address : List ℕ) (device attached : ℕ) → (length address ≡ 8 → ⊥)
    → identify_out_c phys phy address device attached ≡ out (refusal (or_else (first_refusal (identify_front phys phy)) 4)) (phys ∷ [])

-- "5 (address zero, then device_type or attached_phy over 255)": with eight bytes, whatever they are
abbrev pub WideDevice : Type 0
WideDevice =
    (phys : List ℕ) (phy : ℕ) (address : List ℕ) (device attached : ℕ) → length address ≡ 8 → bytes_fit device attached ≡ false
    → identify_out_c phys phy address device attached ≡ out (refusal (or_else (first_refusal (identify_front phys phy)) 5)) (phys ∷ [])

-- "refused as 5 on any phy, after the other causes of 5": as document 01 refuses the request with any byte and any counts in their place, else
-- as 5
abbrev pub NoByte : Type 0
NoByte =
    (w : ℕ) (phys permissions : List ℕ) (phy carried byte : ℕ) (changes counts : Changes) (request response set : List ℕ) → all_fit carried changes ≡ false
    → smp_out_c w phys permissions phy carried changes request response set
    ≡ out (refusal (or_else (first_refusal (smp_checks w phys permissions phy byte counts request (room_for response set))) 5)) (phys ∷ permissions ∷ response ∷ set ∷ [])
