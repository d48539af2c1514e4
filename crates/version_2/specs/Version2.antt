-- Document 02, request 08, version 2: "adds a block of three bytes for every phy .. after the pairs, and its count in two more bytes at the front of
-- the trailer". Said over the row width w.
use Rattle.std.specs.Prelude.{cond, List, [], ◌∷◌, ◌++◌, ◌≡◌, ℕ, ◌+◌, ◌-◌, ◌*◌, ◌/◌, ◌≤◌, eqb, length, take, drop}
use Rattle.wire.specs.Address.{big_endian}
use Rattle.permit.specs.Permission.{permissions_sized}
use Rattle.tables.specs.Refusals.{Check, refuse, below, differ, off, first_refusal}
use Rattle.tables.specs.Outcome.{Out, outcome}
use Rattle.tables.specs.Phys.{phy_count, phys_sized}
use Rattle.file_pairs.specs.Pairs.{pairs_of, ascending, loaded}
use Rattle.file_pairs.specs.Described.{described}
use Rattle.file_phys.specs.Block.{block_of, numbered, all_writable, rezoned}
use Rattle.file_trailer.specs.Trailer.{two, trailer, version_of, count_of, pairs_in, lengths_checks}
use Rattle.file_trailer.specs.Answers.{file_room}
use Rattle.version_1.specs.Version1.{pairs_checks}

-- how many bytes stand beside the pairs where there are so many phys: "three bytes for every phy", and "the trailer, which then has 14 bytes"
abbrev pub beside : ℕ → ℕ
beside count = 3 * count + 14

-- the file of both tables
unfoldable pub whole_file_of : ℕ → List ℕ → List ℕ → List ℕ
whole_file_of w phys t =
    pairs_of w t ++ block_of phys ++ two (phy_count phys)
    ++ trailer 2 (length (pairs_of w t) / 2) 0 (length (pairs_of w t) + beside (phy_count phys))

-- "Saving refuses 1, then room under 16,400 bytes, then a table that isn't as described .. and in version 2 a phy table that 93h could not have
-- written"
abbrev pub save_whole_checks : ℕ → List ℕ → List ℕ → ℕ → List Check
save_whole_checks w phys permissions room =
    refuse 1 (off (phys_sized phys))
    ∷ refuse 1 (off (permissions_sized w permissions))
    ∷ refuse 3 (below room file_room)
    ∷ refuse 40 (off (described w permissions))
    ∷ refuse 41 (off (all_writable w (block_of phys)))
    ∷ []

abbrev pub save_whole_out : ℕ → List ℕ → List ℕ → List ℕ → Out
save_whole_out w phys permissions file =
    outcome (first_refusal (save_whole_checks w phys permissions (length file)))
    (length (whole_file_of w phys permissions) ∷ [])
    (file ∷ [])
    ((whole_file_of w phys permissions ++ drop (length (whole_file_of w phys permissions)) file) ∷ [])

-- the count "at the front of the trailer", which a file of 14 bytes has, and the block behind the pairs
unfoldable pub phys_of : List ℕ → ℕ
phys_of file = big_endian file 2 (length file - 14) 0

unfoldable pub block_in : List ℕ → List ℕ
block_in file = take (3 * phys_of file) (drop (2 * count_of file) file)

-- "phy count .., a pair out of range or order, a phy out of range or order, a phy block 93h would answer with 02h or with a reserved bit set"
abbrev pub block_checks : ℕ → List ℕ → List ℕ → List Check
block_checks w phys file =
    refuse 36 (differ (phys_of file) (phy_count phys))
    ∷ refuse 37 (off (ascending w 0 (pairs_in file)))
    ∷ refuse 38 (off (numbered (phy_count phys) 0 (block_in file)))
    ∷ refuse 39 (off (all_writable w (block_in file)))
    ∷ []

-- what is judged of a file of version 2 behind its version: "(a version 2 file of 12 or 13 bytes is one ..)" of lengths that disagree
abbrev pub whole_checks : ℕ → List ℕ → List ℕ → List Check
whole_checks w phys file =
    refuse 34 (below (length file) 14)
    ∷ (lengths_checks file (beside (phys_of file)) ++ block_checks w phys file)

-- "The version 2 reader takes version 1 files too": version 1 is judged as by its own reader
unfoldable pub version_checks : ℕ → List ℕ → List ℕ → List Check
version_checks w phys file =
    cond (eqb (version_of file) 1) (pairs_checks w file) (refuse 33 (differ (version_of file) 2) ∷ whole_checks w phys file)

unfoldable pub load_whole_checks : ℕ → List ℕ → List ℕ → List ℕ → List Check
load_whole_checks w phys permissions file =
    refuse 1 (off (phys_sized phys))
    ∷ refuse 1 (off (permissions_sized w permissions))
    ∷ refuse 31 (below (length file) 12)
    ∷ version_checks w phys file

-- "and then leaves the phy table as it is"
unfoldable pub phys_after : List ℕ → List ℕ → List ℕ
phys_after phys file = cond (eqb (version_of file) 1) phys (rezoned phys (block_in file))

-- "A load that isn't refused writes the permission table and, from version 2, bytes 0 and 1 of every phy"
abbrev pub load_whole_out : ℕ → List ℕ → List ℕ → List ℕ → Out
load_whole_out w phys permissions file =
    outcome (first_refusal (load_whole_checks w phys permissions file)) (version_of file ∷ [])
    (phys ∷ permissions ∷ [])
    (phys_after phys file ∷ loaded w (pairs_in file) ∷ [])

-- what inner functions ask: the parts fill the file
pub record Measured (file : List ℕ) : Type 0 where
  pub long : 14 ≤ length file
  pub filled : 2 * count_of file + beside (phys_of file) ≡ length file
