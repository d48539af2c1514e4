-- Request 06, building: phy zones, "first phy, and for each phy: participating or not, priority, group": three bytes an entry. Any other value than
-- 0 is participating.
use Rattle.std.specs.Prelude.{Bool, cond, not, ◌&&◌, ◌||◌, List, [], ◌∷◌, ◌++◌, ℕ, ◌+◌, ◌*◌, ◌/◌, ◌%◌, eqb, ltb, leb, length, get_or}
use Rattle.wire.specs.Bits.{num, tab}
use Rattle.wire.specs.Runs.{every}
use Rattle.tables.specs.Refusals.{Check, refuse, below, differ, off, on, first_refusal}
use Rattle.tables.specs.Outcome.{Out}
use Rattle.console_orders.specs.Building.{built_out, eight}

abbrev pub entry_count : List ℕ → ℕ
entry_count entries = length entries / 3

abbrev pub takes_part : List ℕ → ℕ → Bool
takes_part entries i = not (eqb (get_or entries (3 * i) 0) 0)

abbrev pub priority_at : List ℕ → ℕ → ℕ
priority_at entries i = get_or entries (3 * i + 1) 0

abbrev pub group_at : List ℕ → ℕ → ℕ
group_at entries i = get_or entries (3 * i + 2) 0

-- not 23: no "group .. above 127, or a priority above 15"
unfoldable pub small : List ℕ → ℕ → Bool
small entries i = ltb (priority_at entries i) 16 && ltb (group_at entries i) 128

-- a descriptor that document 01 takes: not "participating with a group other than 1"
unfoldable pub fair : List ℕ → ℕ → Bool
fair entries i = not (takes_part entries i) || eqb (group_at entries i) 1

-- 24: "a descriptor that is participating with a group other than 1, where first phy and entries do not pass 128 together: beyond that every
-- shelf answers 10h"
unfoldable pub barred : ℕ → List ℕ → Bool
barred start entries = leb (start + entry_count entries) 128 && not (every (fair entries) 0 (entry_count entries))

-- 22: "more entries than 128 phys .. (also a lent list whose size is not a whole number of entries ..)"
abbrev pub phy_zones_checks : ℕ → ℕ → List ℕ → List Check
phy_zones_checks room start entries =
    refuse 21 (below room 1020)
    ∷ refuse 22 (below 384 (length entries))
    ∷ refuse 22 (differ (length entries % 3) 0)
    ∷ refuse 23 (below 127 start)
    ∷ refuse 23 (off (every (small entries) 0 (entry_count entries)))
    ∷ refuse 24 (on (barred start entries))
    ∷ []

-- byte i of the descriptors, two bytes an entry as in a phy record; past the last entry, the fill, zero
unfoldable pub entry_byte : List ℕ → ℕ → ℕ
entry_byte entries i =
    cond (eqb (i % 2) 0) (16 * num (takes_part entries (i / 2)) + priority_at entries (i / 2)) (group_at entries (i / 2))

-- how many bytes of descriptors and fill there are: "8 + 2k, plus 2 where k is odd", less the eight
abbrev pub described : ℕ → ℕ
described k = 2 * (k + k % 2)

unfoldable pub phy_zones_request : ℕ → List ℕ → List ℕ
phy_zones_request start entries =
    eight 0x93 (1 + described (entry_count entries) / 4) start (entry_count entries) ++ tab (entry_byte entries) 0 (described (entry_count entries))

abbrev pub phy_zones_out : List ℕ → ℕ → List ℕ → Out
phy_zones_out room start entries = built_out (first_refusal (phy_zones_checks (length room) start entries)) (phy_zones_request start entries) room
