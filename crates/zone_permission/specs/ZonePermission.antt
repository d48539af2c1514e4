-- "C1h CONFIGURE ZONE PERMISSION (004's layout; its number is open there and is ours)."
use Rattle.std.specs.Prelude.{Bool, true, cond, ◌&&◌, List, [], ◌∷◌, ◌≡◌, ℕ, ◌+◌, ◌*◌, ◌/◌, ◌%◌, ◌≤◌, eqb, ltb, length, get_or, drop}
use Rattle.permit.specs.Permission.{groups}
use Rattle.permit.specs.Orders.{Order, order, apply, batch_orders, rows_end}
use Rattle.tables.specs.Refusals.{Check, refuse, below, at_most, differ, off, on, first_refusal}
use Rattle.tables.specs.Phys.{ready_set, empty_set}
use Rattle.requests.specs.Requests.{right, Reply, replied}

-- "Operation is byte 9 bits 7..4"
abbrev pub operation : List ℕ → ℕ
operation request = get_or request 9 0 / 16

-- "source (byte 6) or target (byte 7), low 7 bits"; "NEW VALUE is byte 7 bit 7"
abbrev pub source : List ℕ → ℕ
source request = get_or request 6 0 % 128

abbrev pub target : List ℕ → ℕ
target request = get_or request 7 0 % 128

abbrev pub new_value : List ℕ → Bool
new_value request = eqb (get_or request 7 0 / 128) 1

-- "start (byte 10)"; "k is byte 11"
abbrev pub start_row : List ℕ → ℕ
start_row request = get_or request 10 0

abbrev pub row_count : List ℕ → ℕ
row_count request = get_or request 11 0

-- "Single: M not 12: 03h; source .. or target .. below 2: 02h". "here a single, batch row or descriptor naming a group above 7 answers 02h,
-- after all present results": a group that the table does not hold
abbrev pub single_checks : ℕ → List ℕ → List Check
single_checks w request =
    refuse 0x03 (differ (length request) 12)
    ∷ refuse 0x02 (below (source request) 2)
    ∷ refuse 0x02 (below (target request) 2)
    ∷ refuse 0x02 (at_most (groups w) (source request))
    ∷ refuse 0x02 (at_most (groups w) (target request))
    ∷ []

-- "Batch: .. M not 12 + 16k: 03h; start (byte 10) + k above 128: 11h; start below 2 with k at least 1: 02h."; and a "batch row ..
-- naming a group above 7 answers 02h, after all present results": one that the table does not hold
abbrev pub batch_checks : ℕ → List ℕ → List Check
batch_checks w request =
    refuse 0x03 (differ (length request) (12 + 16 * row_count request))
    ∷ refuse 0x11 (below 128 (start_row request + row_count request))
    ∷ refuse 0x02 (on (ltb (start_row request) 2 && ltb 0 (row_count request)))
    ∷ refuse 0x02 (below (groups w) (rows_end (start_row request) (row_count request)))
    ∷ []

-- "8 single, 9 batch, others 02h"
unfoldable pub operation_checks : ℕ → List ℕ → List Check
operation_checks w request =
    cond (eqb (operation request) 8) (single_checks w request)
    (cond (eqb (operation request) 9) (batch_checks w request)
    (refuse 0x02 (on true) ∷ []))

-- "No right: 01h. M not 4 + 4L or under 12: 03h."
abbrev pub permission_checks : ℕ → List ℕ → List ℕ → ℕ → ℕ → List ℕ → List Check
permission_checks w phys permissions phy carried request =
    refuse 0x01 (off (right w phys permissions phy carried))
    ∷ refuse 0x03 (differ (length request) (4 + 4 * get_or request 3 0))
    ∷ refuse 0x03 (below (length request) 12)
    ∷ operation_checks w request

-- the orders of an accepted request: one, or a batch's rows in order
unfoldable pub orders_of : ℕ → List ℕ → List Order
orders_of w request =
    cond (eqb (operation request) 8)
    (order (source request) (target request) (new_value request) ∷ [])
    (batch_orders w (drop 12 request) (start_row request) 0 (row_count request))

-- what an inner function may build on: the checks of the request's operation let it pass
pub record Accepted (w : ℕ) (request : List ℕ) : Type 0 where
  pub long : 12 ≤ length request
  pub passed : first_refusal (operation_checks w request) ≡ 0

-- "UPDATE COMPLETE (byte 9 bit 0): the set is all ready phys, else empty."
abbrev pub permission_set : List ℕ → List ℕ → List ℕ
permission_set phys request = cond (eqb (get_or request 9 0 % 2) 1) (ready_set phys) empty_set

-- "Response four bytes."
unfoldable pub permission_reply : ℕ → List ℕ → List ℕ → ℕ → ℕ → List ℕ → Reply
permission_reply w phys permissions phy carried request =
    replied (first_refusal (permission_checks w phys permissions phy carried request))
    (record {
      result = 0x00;
      rest = [];
      set = permission_set phys request;
      phys = phys;
      permissions = apply w (orders_of w request) permissions;
    })
    phys permissions
