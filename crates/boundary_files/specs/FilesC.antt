-- What C gets of saved files: the answers' fields in the order of include/shelf.h and include/small.h.
use Rattle.std.specs.Prelude.{List, [], ◌∷◌, ℕ}
use Rattle.boundary_files.specs.declared.SavedC.{SavedC}
use Rattle.boundary_files.specs.declared.LoadedC.{LoadedC}

abbrev pub saved_fields : SavedC → List ℕ
saved_fields r = r.refusal ∷ r.length ∷ []

abbrev pub loaded_fields : LoadedC → List ℕ
loaded_fields r = r.refusal ∷ r.version ∷ []
