-- What is promised of saved files, for every row width w: of document 01's shelf, w = 16, and of the small shelf, w = 1. That a load is start-up and then
-- its pairs as orders of demand 3, in any run of calls, is in shelf/specs/Promises.antt, where every call is. Proved in proofs/: PairTrips.antt
-- (HistoryDescribed), FileTrips.antt (what is of version 1), WholeTrips.antt (what is of version 2, and OlderFiles), Kept.antt (ZonedKept) and
-- Longest.antt (Longest). Quotes are of document 02, request 08.
use Rattle.std.specs.Prelude.{◌≡◌, true, List, [], ◌∷◌, ◌++◌, ◌⊎◌, ℕ, ◌≤◌, ◌<◌, length, get_or, take, drop}
use Rattle.permit.specs.Permission.{groups, table_size, P, start_table, Width}
use Rattle.permit.specs.Orders.{Order}
use Rattle.permit.specs.History.{Says}
use Rattle.tables.specs.Outcome.{Answer, answer, out}
use Rattle.tables.specs.Phys.{phy_record, phy_count, phys_sized, phy_byte, participating}
use Rattle.links.specs.Links.{identify_out, leaving_out}
use Rattle.phy_zone.specs.PhyZone.{phy_zone_reply}
use Rattle.file_pairs.specs.Pairs.{orders_of}
use Rattle.file_trailer.specs.Trailer.{pairs_in}
use Rattle.version_1.specs.Version1.{file_of, save_out, load_out}
use Rattle.version_2.specs.Version2.{whole_file_of, save_whole_out, load_whole_out}

-- every byte of a lent buffer is one
abbrev pub Bytes : List ℕ → Type 0
Bytes l = (i : ℕ) → get_or l i 0 < 256

-- ---- "a mutual table with start-up rows for groups 0 and 1 (and, in version 2, one phy table that 93h could have written)"

pub record Described (w : ℕ) (t : List ℕ) : Type 0 where
  pub sized : length t ≡ table_size w
  pub both_ways : (c d : ℕ) → c < groups w → d < groups w → P w t c d ≡ P w t d c
  pub low : (c d : ℕ) → c < 2 → d < groups w → P w t c d ≡ P w (start_table w) c d

-- not "a participating phy in another group than 1, a reserved bit set in byte 0 or 1, a group that 93h refuses"
pub record Zoned (w : ℕ) (phys : List ℕ) : Type 0 where
  pub sized : phys_sized phys ≡ true
  pub unreserved : (i : ℕ) → i < phy_count phys → phy_byte phys i 0 < 32
  pub grouped : (i : ℕ) → i < phy_count phys → phy_byte phys i 1 < groups w
  pub taking : (i : ℕ) → i < phy_count phys → participating phys i ≡ true → phy_byte phys i 1 ≡ 1

-- exactly these are saved, where there is room; any other is refused
abbrev pub ExactlyDescribed : Type 0
ExactlyDescribed =
    (w : ℕ) (t file : List ℕ) → Width w → 16400 ≤ length file
    → (Described w t → save_out w t file ≡ out (answer (length (file_of w t) ∷ [])) ((file_of w t ++ drop (length (file_of w t)) file) ∷ []))
    × ((vs : List ℕ) (bs : List (List ℕ)) → save_out w t file ≡ out (answer vs) bs → Described w t)

abbrev pub ExactlyDescribed2 : Type 0
ExactlyDescribed2 =
    (w : ℕ) (phys t file : List ℕ) → Width w → 16400 ≤ length file
    → (Described w t → Zoned w phys
    → save_whole_out w phys t file ≡ out (answer (length (whole_file_of w phys t) ∷ [])) ((whole_file_of w phys t ++ drop (length (whole_file_of w phys t)) file) ∷ []))
    × ((vs : List ℕ) (bs : List (List ℕ)) → save_whole_out w phys t file ≡ out (answer vs) bs → Described w t × Zoned w phys)

-- a table that demand 3 describes is one of them: so what this software wrote since start-up is never refused by a save
abbrev pub HistoryDescribed : Type 0
HistoryDescribed = (w : ℕ) (t : List ℕ) (os : List Order) → length t ≡ table_size w → Says w t os → Described w t

-- ---- "a load is start-up and then a switch-on of each listed pair": in the words of demand 3
abbrev pub LoadSays : Type 0
LoadSays =
    (w : ℕ) (permissions file : List ℕ) (vs t : List ℕ) → load_out w permissions file ≡ out (answer vs) (t ∷ []) → Says w t (orders_of (pairs_in file))

abbrev pub LoadSays2 : Type 0
LoadSays2 =
    (w : ℕ) (phys permissions file : List ℕ) (vs phys₁ t : List ℕ) → load_whole_out w phys permissions file ≡ out (answer vs) (phys₁ ∷ t ∷ [])
    → Says w t (orders_of (pairs_in file))

-- ---- "exactly one file": load of save gives the tables back. The file is the first n bytes of what the save was lent.
abbrev pub LoadOfSave : Type 0
LoadOfSave =
    (w : ℕ) (t room file : List ℕ) (n : ℕ) → Width w → Bytes t → save_out w t room ≡ out (answer (n ∷ [])) (file ∷ [])
    → (permissions : List ℕ) → length permissions ≡ table_size w → load_out w permissions (take n file) ≡ out (answer (1 ∷ [])) (t ∷ [])

-- in version 2 the other bytes of the phy records are those of the table that is loaded into: where only bytes 0 and 1 differ, it is the one saved
pub record SameButZones (phys phys₁ : List ℕ) : Type 0 where
  pub sized : length phys ≡ length phys₁
  pub others : (i k : ℕ) → i < phy_count phys → 2 ≤ k → k < phy_record → phy_byte phys i k ≡ phy_byte phys₁ i k

abbrev pub LoadOfSave2 : Type 0
LoadOfSave2 =
    (w : ℕ) (phys t room file : List ℕ) (n : ℕ) → Width w → Bytes t → save_whole_out w phys t room ≡ out (answer (n ∷ [])) (file ∷ [])
    → (phys₁ permissions : List ℕ) → length permissions ≡ table_size w → SameButZones phys phys₁
    → load_whole_out w phys₁ permissions (take n file) ≡ out (answer (2 ∷ [])) (phys ∷ t ∷ [])

-- save of load gives the file back
abbrev pub SaveOfLoad : Type 0
SaveOfLoad =
    (w : ℕ) (permissions file vs t room : List ℕ) → Width w → Bytes file → load_out w permissions file ≡ out (answer vs) (t ∷ []) → 16400 ≤ length room
    → save_out w t room ≡ out (answer (length file ∷ [])) ((file ++ drop (length file) room) ∷ [])

abbrev pub SaveOfLoad2 : Type 0
SaveOfLoad2 =
    (w : ℕ) (phys permissions file phys₁ t room : List ℕ) → Width w → Bytes file → load_whole_out w phys permissions file ≡ out (answer (2 ∷ [])) (phys₁ ∷ t ∷ [])
    → 16400 ≤ length room
    → save_whole_out w phys₁ t room ≡ out (answer (length file ∷ [])) ((file ++ drop (length file) room) ∷ [])

-- two files that load to the same tables are equal
abbrev pub OneFile : Type 0
OneFile =
    (w : ℕ) (permissions permissions₁ file file₁ vs vs₁ t : List ℕ) → Width w → Bytes file → Bytes file₁
    → load_out w permissions file ≡ out (answer vs) (t ∷ []) → load_out w permissions₁ file₁ ≡ out (answer vs₁) (t ∷ []) → file ≡ file₁

abbrev pub OneFile2 : Type 0
OneFile2 =
    (w : ℕ) (phys phys₁ permissions permissions₁ file file₁ phys₂ t : List ℕ) → Width w → Bytes file → Bytes file₁
    → load_whole_out w phys permissions file ≡ out (answer (2 ∷ [])) (phys₂ ∷ t ∷ [])
    → load_whole_out w phys₁ permissions₁ file₁ ≡ out (answer (2 ∷ [])) (phys₂ ∷ t ∷ []) → file ≡ file₁

-- ---- "every byte string that is not such a file is refused": what is loaded is the file of a table as described, which the load gives
abbrev pub NothingElse : Type 0
NothingElse =
    (w : ℕ) (permissions file vs : List ℕ) (bs : List (List ℕ)) → Width w → Bytes file → load_out w permissions file ≡ out (answer vs) bs
    → (t : List ℕ) × (Described w t × (file ≡ file_of w t) × (bs ≡ t ∷ []))

-- the version 2 reader: a file of version 2, or of version 1, of which it leaves the phys
pub record Whole (w : ℕ) (phys file : List ℕ) (bs : List (List ℕ)) : Type 0 where
  pub phys₁ : List ℕ
  pub t : List ℕ
  pub described : Described w t
  pub zoned : Zoned w phys₁
  pub same : SameButZones phys phys₁
  pub file_is : file ≡ whole_file_of w phys₁ t
  pub buffers : bs ≡ phys₁ ∷ t ∷ []

pub record Pairs (w : ℕ) (phys file : List ℕ) (bs : List (List ℕ)) : Type 0 where
  pub t : List ℕ
  pub described : Described w t
  pub file_is : file ≡ file_of w t
  pub buffers : bs ≡ phys ∷ t ∷ []

abbrev pub NothingElse2 : Type 0
NothingElse2 =
    (w : ℕ) (phys permissions file vs : List ℕ) (bs : List (List ℕ)) → Width w → Bytes file → load_whole_out w phys permissions file ≡ out (answer vs) bs
    → ((vs ≡ 1 ∷ []) × Pairs w phys file bs) ⊎ ((vs ≡ 2 ∷ []) × Whole w phys file bs)

-- the version 2 reader takes every file that the version 1 reader takes, and gives the same permission table
abbrev pub OlderFiles : Type 0
OlderFiles =
    (w : ℕ) (phys permissions file vs t : List ℕ) → phys_sized phys ≡ true → load_out w permissions file ≡ out (answer vs) (t ∷ [])
    → load_whole_out w phys permissions file ≡ out (answer (1 ∷ [])) (phys ∷ t ∷ [])

-- ---- "a phy table that 93h could have written": a table that a save takes stays one under 93h, IDENTIFY and leaving, whatever they answer
abbrev pub ZonedKept : Type 0
ZonedKept =
    ((w : ℕ) (phys permissions request : List ℕ) (phy carried : ℕ) → Width w → Zoned w phys → Zoned w (phy_zone_reply w phys permissions phy carried request).phys)
    × ((w : ℕ) (phys address phys₁ : List ℕ) (phy device attached : ℕ) (a : Answer) → Width w → length address ≡ 8 → Zoned w phys
    → identify_out phys phy address device attached ≡ out a (phys₁ ∷ []) → Zoned w phys₁)
    × ((w : ℕ) (phys phys₁ : List ℕ) (phy : ℕ) (a : Answer) → Width w → Zoned w phys → leaving_out phys phy ≡ out a (phys₁ ∷ []) → Zoned w phys₁)

-- ---- "Every file of version 1 is at most 16,014 bytes, of version 2 at most 16,400. For both profiles."; the small shelf's 54 and 440
abbrev pub Longest : Type 0
Longest =
    ((t : List ℕ) → length (file_of 16 t) ≤ 16014) × ((phys t : List ℕ) → phys_sized phys ≡ true → length (whole_file_of 16 phys t) ≤ 16400)
    × ((t : List ℕ) → length (file_of 1 t) ≤ 54) × ((phys t : List ℕ) → phys_sized phys ≡ true → length (whole_file_of 1 phys t) ≤ 440)
