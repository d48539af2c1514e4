-- Each contract leaves one answer, in all its fields, and one content of its buffers.
-- Assumes nothing.
use mathlib.Core.Path.{◌≡◌, ap}
use mathlib.Core.List.{List}
use Prim.Native.Nat.{ℕ}
use lib.ListN.{get_or}
use Rattle.boundary.specs.C.{Given, given}
use Rattle.boundary.proofs.Unique.{one}
use Rattle.boundary_files.specs.FilesC.{saved_fields, loaded_fields}
use Rattle.boundary_files.specs.declared.SavedC.{SavedC}
use Rattle.boundary_files.specs.declared.LoadedC.{LoadedC}

-- the answers' structs out of their fields again
abbrev saved_of : List ℕ → SavedC
saved_of fs = record { refusal = get_or fs 0 0; length = get_or fs 1 0 }

abbrev loaded_of : List ℕ → LoadedC
loaded_of fs = record { refusal = get_or fs 0 0; version = get_or fs 1 0 }

module _ (o : Given) (bs cs : List (List ℕ)) where
  pub saved_unique : (r s : SavedC) → given (saved_fields r) bs ≡ o → given (saved_fields s) cs ≡ o → (r ≡ s) × (bs ≡ cs)
  saved_unique r s p q = let e = one o bs cs _ _ p q in (ap saved_of e.0, e.1)

  pub loaded_unique : (r s : LoadedC) → given (loaded_fields r) bs ≡ o → given (loaded_fields s) cs ≡ o → (r ≡ s) × (bs ≡ cs)
  loaded_unique r s p q = let e = one o bs cs _ _ p q in (ap loaded_of e.0, e.1)
