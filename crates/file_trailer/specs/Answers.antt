-- What saves and loads answer, in numbers. 1 and 3 are document 01's refusals; those of a file are 31 to 39, those of a table that is not saved 40
-- and 41.
use Rattle.std.specs.Prelude.{[], ◌∷◌, ℕ, Result}
use Rattle.tables.specs.Outcome.{Answer}
use Rattle.tables.specs.Numbers.{answered}
use Rattle.tables.specs.declared.refusal.Refusal.{Refusal}
use Rattle.file_trailer.specs.declared.Version.{Version}
use Rattle.file_trailer.specs.declared.Version.TheVariants.{One, Two}

-- "Saving refuses .. room under 16,400 bytes"
abbrev pub file_room : ℕ
file_room = 16400

-- "It answers the file's length"
abbrev pub saved_as : Result ℕ Refusal → Answer
saved_as = answered (λ n. n ∷ [])

-- the version of the file that was read
abbrev pub version_number : Version → ℕ
version_number One = 1
version_number Two = 2

abbrev pub loaded_as : Result Version Refusal → Answer
loaded_as = answered (λ v. version_number v ∷ [])
