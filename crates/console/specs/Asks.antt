-- Request 06: everything that the console can be asked to build, as data, and what the choices name, in the library's own words.
use Rattle.std.specs.Prelude.{◌≡◌, Bool, true, cond, ◌&&◌, List, [], ◌∷◌, ◌++◌, ℕ, zero, suc, ◌+◌, ◌-◌, ◌*◌, min, ltb}
use Rattle.wire.specs.Bits.{num}
use Rattle.permit.specs.Permission.{groups, permissions_sized, Width}
use Rattle.permit.specs.Orders.{Order, order, apply, row_orders, rows_end}
use Rattle.tables.specs.Refusals.{Check, first_refusal}
use Rattle.tables.specs.Phys.{phy_count, ready_set, empty_set, zoned}
use Rattle.tables.specs.Arrival.{arrival_checks}
use Rattle.requests.specs.Requests.{right, Reply, replied}
use Rattle.shown_rows.specs.ShownRows.{shown_rows}
use Rattle.console_orders.specs.Building.{single_checks, single_request, report_checks, report_request}
use Rattle.console_rows.specs.Batches.{choice_rows, chosen, batch_checks, batch_request}
use Rattle.wire.specs.Runs.{every}
use Rattle.console_zones.specs.Zones.{entry_count, takes_part, priority_at, group_at, phy_zones_checks, phy_zones_request}

-- "phy zones (first phy, and for each phy: participating or not, priority, group), a single order (two groups, on or off, update complete or
-- not), a batch (first group, rows, update complete or not), a report (first group, how many rows)"
pub data Ask : Type 0 where
  zones : ℕ → List ℕ → Ask
  single : ℕ → ℕ → Bool → Bool → Ask
  batch : ℕ → List ℕ → Bool → Ask
  report : ℕ → ℕ → Ask

-- its refusals, where the request's room has so many bytes
abbrev pub checks_of : ℕ → Ask → List Check
checks_of room (zones start entries) = phy_zones_checks room start entries
checks_of room (single a b new complete) = single_checks room a b
checks_of room (batch start choices complete) = batch_checks room start choices
checks_of room (report start count) = report_checks room start count

-- the request that is built
abbrev pub request_of : Ask → List ℕ
request_of (zones start entries) = phy_zones_request start entries
request_of (single a b new complete) = single_request a b new complete
request_of (batch start choices complete) = batch_request start choices complete
request_of (report start count) = report_request start count

-- ---- what the choices name
-- the rows i, i + 1, .., n of them, as orders: row i is the group start + i's, and names every group from 2 on that the table holds
unfoldable pub chosen_orders : ℕ → List ℕ → ℕ → ℕ → ℕ → List Order
chosen_orders w choices start i zero = []
chosen_orders w choices start i (suc n) = row_orders (chosen choices i) (start + i) 2 (groups w - 2) ++ chosen_orders w choices start (suc i) n

abbrev pub orders_named : ℕ → Ask → List Order
orders_named w (zones start entries) = []
orders_named w (single a b new complete) = order a b new ∷ []
orders_named w (batch start choices complete) = chosen_orders w choices start 0 (choice_rows choices)
orders_named w (report start count) = []

-- the phy table with the entries i, i + 1, .., n of them, written: entry i is the phy start + i's
unfoldable pub chosen_zones : List ℕ → ℕ → List ℕ → ℕ → ℕ → List ℕ
chosen_zones phys start entries i zero = phys
chosen_zones phys start entries i (suc n) =
    chosen_zones (zoned phys (start + i) (16 * num (takes_part entries i) + priority_at entries i) (group_at entries i)) start entries (suc i) n

abbrev pub zones_named : Ask → List ℕ → List ℕ
zones_named (zones start entries) phys = chosen_zones phys start entries 0 (entry_count entries)
zones_named (single a b new complete) phys = phys
zones_named (batch start choices complete) phys = phys
zones_named (report start count) phys = phys

-- who is told: all ready phys of new zones, and of orders where the update is complete
abbrev pub told_named : Ask → List ℕ → List ℕ
told_named (zones start entries) phys = ready_set phys
told_named (single a b new complete) phys = cond complete (ready_set phys) empty_set
told_named (batch start choices complete) phys = cond complete (ready_set phys) empty_set
told_named (report start count) phys = empty_set

-- a report: from the first group, as many rows as are asked for and there are, in document 01's layout
abbrev pub rows_named : ℕ → Ask → List ℕ → List ℕ
rows_named w (zones start entries) permissions = []
rows_named w (single a b new complete) permissions = []
rows_named w (batch start choices complete) permissions = []
rows_named w (report start count) permissions =
    0 ∷ 0 ∷ start ∷ min count (128 - start) ∷ 0 ∷ 0 ∷ 0 ∷ 0 ∷ shown_rows w permissions start (min count (128 - start))

-- the table holds the group of entry i
abbrev pub held : ℕ → List ℕ → ℕ → Bool
held w entries i = ltb (group_at entries i) (groups w)

-- the result for a caller with the right, from a shelf of so many phys: 10h past its last phy, 11h past the last group, and 02h for a group
-- that its table does not hold, which document 01's always does: "nor is what only the small shelf answers 02h (a group above 7)"
unfoldable pub result_named : ℕ → ℕ → Ask → ℕ
result_named w phys (zones start entries) =
    cond (ltb phys (start + entry_count entries)) 0x10 (cond (every (held w entries) 0 (entry_count entries)) 0x00 0x02)
result_named w phys (single a b new complete) = cond (ltb a (groups w) && ltb b (groups w)) 0x00 0x02
result_named w phys (batch start choices complete) =
    cond (ltb 128 (start + choice_rows choices)) 0x11 (cond (ltb (groups w) (rows_end start (choice_rows choices))) 0x02 0x00)
result_named w phys (report start count) = 0x00

-- all of it, as the library's reply
unfoldable pub named : ℕ → Ask → List ℕ → List ℕ → Reply
named w ask phys permissions =
    replied (result_named w (phy_count phys) ask)
    (record {
      result = 0x00;
      rest = rows_named w ask permissions;
      set = told_named ask phys;
      phys = zones_named ask phys;
      permissions = apply w (orders_named w ask) permissions;
    })
    phys permissions

-- ---- a call of `smp` that the shelf takes, by a caller with the right to change zoning
pub record Rightful (w : ℕ) (phys permissions : List ℕ) (phy carried : ℕ) (room : Bool) : Type 0 where
  pub width : Width w
  pub arrives : first_refusal (arrival_checks phys phy (permissions_sized w permissions) room true) ≡ 0
  pub may : right w phys permissions phy carried ≡ true
