-- Document 02, request 08: "then a 12-byte trailer, big-endian: version (2 bytes), record count (2), offset of the first record (4), file length
-- (4)". What a trailer is, and what a reader finds in any bytes, of either version: "The version stands at the file length less 12 in both."
use Rattle.std.specs.Prelude.{List, [], ◌∷◌, ◌++◌, ℕ, ◌+◌, ◌-◌, ◌*◌, ◌/◌, ◌%◌, length, take}
use Rattle.wire.specs.Address.{big_endian}
use Rattle.tables.specs.Refusals.{Check, refuse, differ}

-- "big-endian"
abbrev pub two : ℕ → List ℕ
two x = x / 256 ∷ x % 256 ∷ []

abbrev pub four : ℕ → List ℕ
four x = two (x / 65536) ++ two (x % 65536)

unfoldable pub trailer : ℕ → ℕ → ℕ → ℕ → List ℕ
trailer version records offset size = two version ++ two records ++ four offset ++ four size

-- where those twelve bytes begin, and their fields
abbrev pub tail : List ℕ → ℕ
tail file = length file - 12

unfoldable pub version_of : List ℕ → ℕ
version_of file = big_endian file 2 (tail file) 0

unfoldable pub count_of : List ℕ → ℕ
count_of file = big_endian file 2 (tail file + 2) 0

unfoldable pub offset_of : List ℕ → ℕ
offset_of file = big_endian file 4 (tail file + 4) 0

unfoldable pub size_of : List ℕ → ℕ
size_of file = big_endian file 4 (tail file + 8) 0

-- the records: from the file's first byte on, two bytes each
unfoldable pub pairs_in : List ℕ → List ℕ
pairs_in file = take (2 * count_of file) file

-- "lengths, offset .. that disagree": 34 and 35. `beside` is how many bytes stand beside the pairs' records.
abbrev pub lengths_checks : List ℕ → ℕ → List Check
lengths_checks file beside =
    refuse 34 (differ (size_of file) (length file))
    ∷ refuse 34 (differ (2 * count_of file + beside) (length file))
    ∷ refuse 35 (differ (offset_of file) 0)
    ∷ []
