-- "93h CONFIGURE PHY ZONE (001)."
use Rattle.std.specs.Prelude.{Bool, true, not, ◌&&◌, ◌||◌, List, [], ◌∷◌, ℕ, zero, suc, ◌+◌, ◌*◌, ◌/◌, ◌%◌, eqb, ltb, length, get_or}
use Rattle.permit.specs.Permission.{groups}
use Rattle.tables.specs.Refusals.{Check, refuse, below, differ, off, first_refusal}
use Rattle.tables.specs.Phys.{phy_count, ready_set, zoned}
use Rattle.requests.specs.Requests.{right, Reply, replied}

-- "k is byte 7." "Start is byte 6, low 7 bits"
abbrev pub entries : List ℕ → ℕ
entries request = get_or request 7 0

abbrev pub start_phy : List ℕ → ℕ
start_phy request = get_or request 6 0 % 128

-- descriptor i is the two bytes from 8 + 2i on: byte 0 as a phy record's byte 0, byte 1 the group
abbrev pub first : List ℕ → ℕ → ℕ
first request i = get_or request (8 + 2 * i) 0

abbrev pub group : List ℕ → ℕ → ℕ
group request i = get_or request (8 + 2 * i + 1) 0

-- "A descriptor with its group byte above 127, or participating with a group other than 1: 02h." "here a .. descriptor
-- naming a group above 7 answers 02h, after all present results": one that the table does not hold; document 01's holds all up to 127
unfoldable pub sound : ℕ → ℕ → ℕ → Bool
sound w b0 b1 = ltb b1 (groups w) && (not (eqb (b0 / 16 % 2) 1) || eqb b1 1)

-- the n descriptors from i on are sound
unfoldable pub all_sound : ℕ → List ℕ → ℕ → ℕ → Bool
all_sound w request i zero = true
all_sound w request i (suc n) = sound w (first request i) (group request i) && all_sound w request (suc i) n

-- "No right: 02h." "M must be at least 8, be 4 + 4L, and equal 8 + 2k, plus 2 where k is odd: else 03h." "start + k above the number of
-- phys: 10h." and the descriptors
abbrev pub phy_zone_checks : ℕ → List ℕ → List ℕ → ℕ → ℕ → List ℕ → List Check
phy_zone_checks w phys permissions phy carried request =
    refuse 0x02 (off (right w phys permissions phy carried))
    ∷ refuse 0x03 (below (length request) 8)
    ∷ refuse 0x03 (differ (length request) (4 + 4 * get_or request 3 0))
    ∷ refuse 0x03 (differ (length request) (8 + 2 * entries request + 2 * (entries request % 2)))
    ∷ refuse 0x10 (below (phy_count phys) (start_phy request + entries request))
    ∷ refuse 0x02 (off (all_sound w request 0 (entries request)))
    ∷ []

-- "Then bytes 0 and 1 of k records are written, reserved bits zero.": the n descriptors from i on
unfoldable pub configured : List ℕ → List ℕ → ℕ → ℕ → ℕ → List ℕ
configured phys request start i zero = phys
configured phys request start i (suc n) =
    configured (zoned phys (start + i) (first request i) (group request i)) request start (suc i) n

-- "The set is all ready phys, also for k = 0. Response four bytes."
unfoldable pub phy_zone_reply : ℕ → List ℕ → List ℕ → ℕ → ℕ → List ℕ → Reply
phy_zone_reply w phys permissions phy carried request =
    replied (first_refusal (phy_zone_checks w phys permissions phy carried request))
    (record {
      result = 0x00;
      rest = [];
      set = ready_set phys;
      phys = configured phys request (start_phy request) 0 (entries request);
      permissions = permissions;
    })
    phys permissions
