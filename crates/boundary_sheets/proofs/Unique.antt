-- Each contract leaves one answer, in all its fields, and one content of its buffer.
-- Assumes nothing.
use mathlib.Core.Path.{◌≡◌, ap}
use mathlib.Core.List.{List}
use Prim.Native.Nat.{ℕ}
use lib.ListN.{get_or}
use Rattle.boundary.specs.C.{Given, given}
use Rattle.boundary.proofs.Unique.{one}
use Rattle.boundary_sheets.specs.SheetsC.{imported_fields, exported_fields}
use Rattle.boundary_sheets.specs.declared.ImportedC.{ImportedC}
use Rattle.boundary_sheets.specs.declared.ExportedC.{ExportedC}

-- the answers' structs out of their fields again
abbrev imported_of : List ℕ → ImportedC
imported_of fs = record { refusal = get_or fs 0 0; lines = get_or fs 1 0; cause = get_or fs 2 0 }

abbrev exported_of : List ℕ → ExportedC
exported_of fs = record { refusal = get_or fs 0 0; length = get_or fs 1 0 }

module _ (o : Given) (bs cs : List (List ℕ)) where
  pub imported_unique : (r s : ImportedC) → given (imported_fields r) bs ≡ o → given (imported_fields s) cs ≡ o → (r ≡ s) × (bs ≡ cs)
  imported_unique r s p q = let e = one o bs cs _ _ p q in (ap imported_of e.0, e.1)

  pub exported_unique : (r s : ExportedC) → given (exported_fields r) bs ≡ o → given (exported_fields s) cs ≡ o → (r ≡ s) × (bs ≡ cs)
  exported_unique r s p q = let e = one o bs cs _ _ p q in (ap exported_of e.0, e.1)
