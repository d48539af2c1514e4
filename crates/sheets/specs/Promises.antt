-- What is promised of sheets, for every row width w: of document 01's shelf, w = 16, and of the small shelf, w = 1. That the accepted lines are orders of
-- demand 3 is in shelf/specs/Promises.antt, where every call is. Proved in proofs/: Taken.antt (ExactlySuch, NothingElse), Longest.antt (Longest),
-- SameOrder.antt (LineIsOrder) and RoundTrip.antt (GivenBack). Quotes are of document 02, request 07.
use Rattle.std.specs.Prelude.{◌≡◌, Bool, true, false, cond, List, [], ◌∷◌, ◌++◌, ℕ, ◌+◌, ◌≤◌, ◌<◌, length, get_or, take}
use Rattle.permit.specs.Permission.{table_size, start_table, Width}
use Rattle.permit.specs.Orders.{Order, order, apply}
use Rattle.permit.specs.History.{Says}
use Rattle.tables.specs.Refusals.{first_refusal}
use Rattle.tables.specs.Outcome.{answer, out}
use Rattle.tables.specs.Phys.{phy_count, phys_sized, phy_group, participating, ready, empty_set}
use Rattle.requests.specs.Requests.{right}
use Rattle.zone_permission.specs.ZonePermission.{permission_reply}
use Rattle.sheet_lines.specs.Line.{line_text, LineEnd, line, bad, line_of}
use Rattle.imports.specs.Import.{group_checks, import_out, import_orders}
use Rattle.exports.specs.Export.{sheet_text, export_out}

-- ---- Lines: "three fields a line: group, group, and 1 or 0, numbers in decimal without leading zeros", "ended by CRLF or LF"

-- s starts with such a line, of these groups and this value, and `rest` is behind it
pub record Such (s : List ℕ) (a b : ℕ) (v : Bool) (rest : List ℕ) : Type 0 where
  pub end : List ℕ
  pub ended : LineEnd end
  pub text : s ≡ line_text a b v end ++ rest

-- the reader takes exactly such text, as those groups and that value
abbrev pub ExactlySuch : Type 0
ExactlySuch =
    (s : List ℕ) (a b : ℕ) (v : Bool) (rest : List ℕ)
    → (line_of s ≡ line a b v rest → Such s a b v rest) × (Such s a b v rest → line_of s ≡ line a b v rest)

-- "text that isn't such a line or has no line end" is bad, and no other is
abbrev pub NothingElse : Type 0
NothingElse =
    (s : List ℕ)
    → (line_of s ≡ bad → (a b : ℕ) (v : Bool) (rest : List ℕ) → Such s a b v rest → ⊥)
    × (((a b : ℕ) (v : Bool) (rest : List ℕ) → Such s a b v rest → ⊥) → line_of s ≡ bad)

-- ---- Orders: "Import gives each line as a single order without UPDATE COMPLETE"

-- the C1h request for groups a and b: operation 8, NEW VALUE in byte 7 bit 7, UPDATE COMPLETE off
abbrev pub single_request : ℕ → ℕ → Bool → List ℕ
single_request a b v = 0x40 ∷ 0xc1 ∷ 0 ∷ 2 ∷ 0 ∷ 0 ∷ a ∷ (b + cond v 128 0) ∷ 0 ∷ 0x80 ∷ 0 ∷ 0 ∷ []

-- a line of groups below 128, from a caller with the right, has no cause to fail exactly where that request gets 00h; and it does to the table what the
-- request does
abbrev pub LineIsOrder : Type 0
LineIsOrder =
    (w : ℕ) (phys t : List ℕ) (phy carried a b : ℕ) (v : Bool) → a < 128 → b < 128 → right w phys t phy carried ≡ true
    → (first_refusal (group_checks w a b) ≡ 0
    → permission_reply w phys t phy carried (single_request a b v)
    ≡ record { result = 0x00; rest = []; set = empty_set; phys = phys; permissions = apply w (order a b v ∷ []) t })
    × ((permission_reply w phys t phy carried (single_request a b v)).result ≡ 0x00 → first_refusal (group_checks w a b) ≡ 0)

-- ---- Export: no sheet is longer than n bytes, and one is just so long

pub record LongestIs (w n : ℕ) : Type 0 where
  pub most : (t : List ℕ) → length (sheet_text w t) ≤ n
  pub full : List ℕ
  pub sized : length full ≡ table_size w
  pub whole : length (sheet_text w full) ≡ n

-- of document 01's shelf, and of the small one
abbrev pub Longest : Type 0
Longest = LongestIs 16 74549 × LongestIs 1 147

-- ---- The round trip: "For a table that demand 3 describes, importing its export into a fresh table, by a ready phy in group 1 that isn't participating,
-- gives it back."

pub record Caller (phys : List ℕ) (phy : ℕ) : Type 0 where
  pub sized : phys_sized phys ≡ true
  pub there : phy < phy_count phys
  pub is_ready : ready phys phy ≡ true
  pub alone : participating phys phy ≡ false
  pub first : phy_group phys phy ≡ 1

-- what the export wrote, its first n bytes, is imported; and every line is accepted: the answer is a number of lines, that of the orders
abbrev pub GivenBack : Type 0
GivenBack =
    (w : ℕ) (t : List ℕ) (os : List Order) → Width w → length t ≡ table_size w → ((i : ℕ) → get_or t i 0 < 256) → Says w t os
    → (room sheet : List ℕ) (n : ℕ) → export_out w t room ≡ out (answer (n ∷ [])) (sheet ∷ [])
    → (phys : List ℕ) (phy carried : ℕ) → Caller phys phy
    → import_out w phys (start_table w) phy carried (take n sheet)
    ≡ out (answer (length (import_orders w phys (start_table w) phy carried (take n sheet)) ∷ [])) (t ∷ [])
