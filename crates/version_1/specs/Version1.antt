-- Document 02, request 08, version 1: "records of two bytes ..; then a 12-byte trailer". Said over the row width w.
use Rattle.std.specs.Prelude.{List, [], ◌∷◌, ◌++◌, ℕ, ◌+◌, ◌*◌, ◌/◌, ◌≤◌, length, drop}
use Rattle.permit.specs.Permission.{permissions_sized}
use Rattle.tables.specs.Refusals.{Check, refuse, below, same, differ, off, first_refusal}
use Rattle.tables.specs.Outcome.{Out, outcome}
use Rattle.file_pairs.specs.Pairs.{pairs_of, ascending, loaded}
use Rattle.file_pairs.specs.Described.{described}
use Rattle.file_trailer.specs.Trailer.{trailer, version_of, count_of, pairs_in, lengths_checks}
use Rattle.file_trailer.specs.Answers.{file_room}

-- "The offset is 0; nothing else is in the file."
unfoldable pub file_of : ℕ → List ℕ → List ℕ
file_of w t = pairs_of w t ++ trailer 1 (length (pairs_of w t) / 2) 0 (length (pairs_of w t) + 12)

-- "Saving refuses 1, then room under 16,400 bytes, then a table that isn't as described."
abbrev pub save_checks : ℕ → List ℕ → ℕ → List Check
save_checks w permissions room =
    refuse 1 (off (permissions_sized w permissions))
    ∷ refuse 3 (below room file_room)
    ∷ refuse 40 (off (described w permissions))
    ∷ []

-- "It answers the file's length; bytes beyond it stay."
abbrev pub save_out : ℕ → List ℕ → List ℕ → Out
save_out w permissions file =
    outcome (first_refusal (save_checks w permissions (length file)))
    (length (file_of w permissions) ∷ [])
    (file ∷ [])
    ((file_of w permissions ++ drop (length (file_of w permissions)) file) ∷ [])

-- what is judged of a file of version 1 behind its version, by either reader: "lengths, offset .. that disagree, a pair out of range or order"
abbrev pub pairs_checks : ℕ → List ℕ → List Check
pairs_checks w file = lengths_checks file 12 ++ refuse 37 (off (ascending w 0 (pairs_in file))) ∷ []

-- "Refusals, in order: 1, too short (under 12 bytes), unknown version, .." and "A version 1 reader refuses version 2 by name", as 32
abbrev pub load_checks : ℕ → List ℕ → List ℕ → List Check
load_checks w permissions file =
    refuse 1 (off (permissions_sized w permissions))
    ∷ refuse 31 (below (length file) 12)
    ∷ refuse 32 (same (version_of file) 2)
    ∷ refuse 33 (differ (version_of file) 1)
    ∷ pairs_checks w file

-- "counts as start-up and then a switch-on of each listed pair"
abbrev pub load_out : ℕ → List ℕ → List ℕ → Out
load_out w permissions file =
    outcome (first_refusal (load_checks w permissions file)) (1 ∷ []) (permissions ∷ []) (loaded w (pairs_in file) ∷ [])

-- what inner functions ask of a file whose lengths agree: the records are there
pub record Holding (file : List ℕ) : Type 0 where
  pub long : 12 ≤ length file
  pub there : 2 * count_of file ≤ length file
