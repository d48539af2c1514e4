-- Request 06, building: a batch. "in a row, byte j is 0 or 1 for group j, 128 bytes a row, so that nobody outside packs a bit"; any other value
-- than 0 is on.
use Rattle.std.specs.Prelude.{Bool, not, ◌&&◌, List, [], ◌∷◌, ◌++◌, ℕ, ◌+◌, ◌-◌, ◌*◌, ◌/◌, ◌%◌, eqb, ltb, length, get_or}
use Rattle.wire.specs.Bits.{num, tab}
use Rattle.wire.specs.PhySet.{set_byte}
use Rattle.tables.specs.Refusals.{Check, refuse, below, differ, on, first_refusal}
use Rattle.tables.specs.Outcome.{Out}
use Rattle.console_orders.specs.Building.{built_out, twelve}

abbrev pub choice_rows : List ℕ → ℕ
choice_rows choices = length choices / 128

-- group j of row r
unfoldable pub chosen : List ℕ → ℕ → ℕ → Bool
chosen choices r j = not (eqb (get_or choices (128 * r + j) 0) 0)

-- byte i of the rows as they are sent, sixteen a row. Document 01: "group j is bit j mod 8 of byte 15 - j/8", so byte q has the groups that a
-- phy set has in its byte 15 - q
unfoldable pub packed : List ℕ → ℕ → ℕ
packed choices i = set_byte (chosen choices (i / 16)) (15 - i % 16)

-- 22: "more entries than .. 63 rows (also a lent list whose size is not a whole number of entries ..)". 24: "a batch of at least one row that
-- starts below 2"
abbrev pub batch_checks : ℕ → ℕ → List ℕ → List Check
batch_checks room start choices =
    refuse 21 (below room 1020)
    ∷ refuse 22 (below 8064 (length choices))
    ∷ refuse 22 (differ (length choices % 128) 0)
    ∷ refuse 23 (below 127 start)
    ∷ refuse 24 (on (ltb start 2 && ltb 0 (choice_rows choices)))
    ∷ []

-- operation 9, start and k, and the rows
unfoldable pub batch_request : ℕ → List ℕ → Bool → List ℕ
batch_request start choices complete =
    twelve (2 + 4 * choice_rows choices) 0 0 (0x90 + num complete) start (choice_rows choices) ++ tab (packed choices) 0 (16 * choice_rows choices)

abbrev pub batch_out : List ℕ → ℕ → List ℕ → Bool → Out
batch_out room start choices complete =
    built_out (first_refusal (batch_checks (length room) start choices)) (batch_request start choices complete) room
