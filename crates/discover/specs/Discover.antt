-- Document 02, request 03: "DISCOVER, function 10h", "from source document 002", whose tables 1 and 2 have the places.
use Rattle.std.specs.Prelude.{Bool, cond, ◌&&◌, ◌||◌, List, [], ◌∷◌, ◌++◌, ℕ, ◌+◌, ◌-◌, ◌*◌, ◌/◌, ◌%◌, eqb, leb, ltb, length, get_or}
use Rattle.wire.specs.Bits.{num, tab}
use Rattle.tables.specs.Refusals.{Check, refuse, at_most, differ, off, first_refusal}
use Rattle.tables.specs.Phys.{phy_count, phy_byte, phy_group, participating, ready, device_type, attached_phy, empty_set}
use Rattle.requests.specs.Requests.{smp_source, source_reaches, Reply, replied}
use Rattle.discover.specs.declared.Changes.{Changes}

-- "byte 3 being 02h or 00h"
unfoldable pub length_said : List ℕ → Bool
length_said request = eqb (get_or request 3 0) 0x02 || eqb (get_or request 3 0) 0x00

-- "byte 8 bit 0 IGNORE ZONE GROUP"
abbrev pub ignores_groups : List ℕ → Bool
ignores_groups request = eqb (get_or request 8 0 % 2) 1

-- "byte 9 the phy"
abbrev pub asked_phy : List ℕ → ℕ
asked_phy request = get_or request 9 0

-- P(source group, phy i's group): whether the caller reaches phy i
unfoldable pub reaches_phy : ℕ → List ℕ → List ℕ → ℕ → ℕ → ℕ → Bool
reaches_phy w phys permissions phy carried i = source_reaches w permissions (smp_source phys phy carried) (phy_group phys i)

-- "with the ignore bit zero, P(source group, the phy's group) off: 16h": whether the phy asked for is shown
unfoldable pub shown : ℕ → List ℕ → List ℕ → ℕ → ℕ → List ℕ → Bool
shown w phys permissions phy carried request =
    ignores_groups request || reaches_phy w phys permissions phy carried (asked_phy request)

-- "request of 12 bytes"; "wrong length 03h; phy beyond the table 10h; then .. 16h (PHY VACANT)"
abbrev pub discover_checks : ℕ → List ℕ → List ℕ → ℕ → ℕ → List ℕ → List Check
discover_checks w phys permissions phy carried request =
    refuse 0x03 (differ (length request) 12)
    ∷ refuse 0x03 (off (length_said request))
    ∷ refuse 0x10 (at_most (phy_count phys) (asked_phy request))
    ∷ refuse 0x16 (off (shown w phys permissions phy carried request))
    ∷ []

-- a field of the response: its first place, and its bytes from there on
pub data Field : Type 0 where
  at : ℕ → List ℕ → Field

-- the byte at a place: of the field that has it; "the rest are zero"
unfoldable pub byte_at : List Field → ℕ → ℕ
byte_at [] k = 0
byte_at (at place bytes ∷ fields) k =
    cond (leb place k && ltb k (place + length bytes)) (get_or bytes (k - place) 0) (byte_at fields k)

-- 002, table 2: bytes 4 and 5 EXPANDER CHANGE COUNT, most significant first; 9 PHY IDENTIFIER; 42 PHY CHANGE COUNT; 60, bit 1, INSIDE ZPSDS
-- "(our participating bit)" and, bit 0, "ZONING ENABLED as one"; 63 ZONE GROUP
abbrev pub plain_fields : List ℕ → ℕ → Changes → List Field
plain_fields phys i changes =
    at 4 (changes.expander / 256 ∷ changes.expander % 256 ∷ [])
    ∷ at 9 (i ∷ [])
    ∷ at 42 (changes.phy ∷ [])
    ∷ at 60 ((num (participating phys i) * 2 + 1) ∷ [])
    ∷ at 63 (phy_group phys i ∷ [])
    ∷ []

-- 002, table 2: byte 12, bits 6 to 4, ATTACHED DEVICE TYPE; 24 to 31 ATTACHED SAS ADDRESS; 32 ATTACHED PHY IDENTIFIER
abbrev pub attached_fields : List ℕ → ℕ → List Field
attached_fields phys i =
    at 12 (device_type phys i * 16 ∷ [])
    ∷ at 24 (tab (phy_byte phys i) 4 8)
    ∷ at 32 (attached_phy phys i ∷ [])
    ∷ []

-- "For a phy that isn't ready the three attached fields are zero."
abbrev pub fields : List ℕ → ℕ → Changes → List Field
fields phys i changes = plain_fields phys i changes ++ cond (ready phys i) (attached_fields phys i) []

-- "The response has 108 bytes and length 1Ah": the bytes from 4 on
unfoldable pub description : List ℕ → ℕ → Changes → List ℕ
description phys i changes = tab (byte_at (fields phys i changes)) 4 104

-- "The set is empty." No table changes.
unfoldable pub discover_reply : ℕ → List ℕ → List ℕ → ℕ → ℕ → Changes → List ℕ → Reply
discover_reply w phys permissions phy carried changes request =
    replied (first_refusal (discover_checks w phys permissions phy carried request))
    (record {
      result = 0x00;
      rest = description phys (asked_phy request) changes;
      set = empty_set;
      phys = phys;
      permissions = permissions;
    })
    phys permissions
