-- "Cases 1 to 5 as input, in order", and the lines that document 01 prints for them.
use Rattle.std.specs.Prelude.{◌≡◌, List, [], ◌∷◌, ◌++◌, ℕ, ◌+◌, ◌/◌, ◌%◌, length, replicate}
use Rattle.bench_text.specs.Stream.{whole_text}

abbrev pub event : ℕ → ℕ → List ℕ → List ℕ
event kind phy payload = kind ∷ phy ∷ 0 ∷ (length payload / 256) ∷ (length payload % 256) ∷ payload

-- "40 C1 00 02 00 00 08 89 00 81 00 00"
abbrev pub order : List ℕ
order = 0x40 ∷ 0xc1 ∷ 0 ∷ 2 ∷ 0 ∷ 0 ∷ 8 ∷ 0x89 ∷ 0 ∷ 0x81 ∷ 0 ∷ 0 ∷ []

-- "addresses 50h, six zeros, 10h + i"
abbrev pub address_of : ℕ → List ℕ
address_of i = 0x50 ∷ 0 ∷ 0 ∷ 0 ∷ 0 ∷ 0 ∷ 0 ∷ (0x10 + i) ∷ []

abbrev pub open_to : ℕ → List ℕ
open_to i = (1 ∷ 0 ∷ 0 ∷ 0 ∷ []) ++ address_of i ++ address_of 2 ++ replicate 8 0

unfoldable pub five_cases : List ℕ
five_cases = event 1 0 order ++ event 2 2 (open_to 4) ++ event 2 2 (open_to 1) ++ event 3 2 (0 ∷ []) ++ event 1 2 order

-- rack 1, 1 S 00 4 8, 2 O FWD 4, 3 O ZV, 4 B 4, 5 S 01 4 0
unfoldable pub five_lines : List ℕ
five_lines =
    (114 ∷ 97 ∷ 99 ∷ 107 ∷ 32 ∷ 49 ∷ 10 ∷ [])
    ++ (49 ∷ 32 ∷ 83 ∷ 32 ∷ 48 ∷ 48 ∷ 32 ∷ 52 ∷ 32 ∷ 56 ∷ 10 ∷ [])
    ++ (50 ∷ 32 ∷ 79 ∷ 32 ∷ 70 ∷ 87 ∷ 68 ∷ 32 ∷ 52 ∷ 10 ∷ [])
    ++ (51 ∷ 32 ∷ 79 ∷ 32 ∷ 90 ∷ 86 ∷ 10 ∷ [])
    ++ (52 ∷ 32 ∷ 66 ∷ 32 ∷ 52 ∷ 10 ∷ [])
    ++ (53 ∷ 32 ∷ 83 ∷ 32 ∷ 48 ∷ 49 ∷ 32 ∷ 52 ∷ 32 ∷ 48 ∷ 10 ∷ [])

-- with one byte more, an event that is cut off: 6 T
abbrev pub Worked : Type 0
Worked = (whole_text five_cases ≡ five_lines) × (whole_text (five_cases ++ (3 ∷ [])) ≡ five_lines ++ (54 ∷ 32 ∷ 84 ∷ 10 ∷ []))
