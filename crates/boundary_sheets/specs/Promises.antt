-- What is promised of the sheets' C boundary itself, beside what its contracts say. The quotes are of include/shelf.h and include/small.h. Proved in
-- proofs/SheetsCLaws.antt.
use Rattle.std.specs.Prelude.{◌≡◌, List, [], ◌∷◌, ℕ, ◌≤◌, ◌<◌, length}
use Rattle.tables.specs.Refusals.{first_refusal}
use Rattle.tables.specs.Outcome.{refusal, out}
use Rattle.imports.specs.Import.{import_checks, import_out}
use Rattle.boundary.specs.C.{or_else}
use Rattle.boundary_sheets.specs.SheetsC.{import_out_c}

-- the boundary's row of its own decides nothing where document 02 has the input: a carried number that is a byte
abbrev pub AsDocument02 : Type 0
AsDocument02 =
    (w : ℕ) (phys permissions : List ℕ) (phy carried : ℕ) (sheet : List ℕ) → carried ≤ 255
    → import_out w phys permissions phy carried sheet ≡ import_out_c w phys permissions phy carried sheet

-- "carried 256 or more is no byte: refused as 5 on any phy, after the other causes of 5": as document 02 refuses the import with any byte in its place,
-- else as 5
abbrev pub NoCarriedByte : Type 0
NoCarriedByte =
    (w : ℕ) (phys permissions : List ℕ) (phy carried byte : ℕ) (sheet : List ℕ) → 255 < carried
    → import_out_c w phys permissions phy carried sheet
    ≡ out (refusal (or_else (first_refusal (import_checks w phys permissions phy byte (length sheet))) 5)) (permissions ∷ [])
