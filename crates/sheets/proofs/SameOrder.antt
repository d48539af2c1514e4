-- A line of a sheet is the single order of C1h.
-- Assumes nothing.
use mathlib.Core.Path.{◌≡◌, refl, sym, ap}
use mathlib.Core.Bool.{Bool, true, false, cond, not}
use mathlib.Core.List.{List, [], ◌∷◌}
use Prim.Native.Nat.{ℕ, zero, suc, ◌+◌, ◌/◌, ◌%◌, ◌≤◌, ◌<◌}
use native.Mathlib.Omega.{arith}
use lib.Dec.{eqb}
use Rattle.permit.specs.Permission.{groups}
use Rattle.permit.specs.Orders.{Order, order, apply}
use Rattle.tables.specs.Refusals.{first_refusal}
use Rattle.tables.specs.Phys.{empty_set}
use Rattle.tables.proofs.RefusalLaws.{first, next, none, clear}
use Rattle.requests.specs.Requests.{right, Reply, replied}
use Rattle.zone_permission.specs.ZonePermission.{operation_checks, permission_checks, orders_of, permission_reply}
use Rattle.imports.specs.Import.{group_checks}
use Rattle.sheets.specs.Promises.{single_request, LineIsOrder}

-- byte 7's low 7 bits are the target
target_is : (b : ℕ) (v : Bool) → b < 128 → (b + cond v 128 0) % 128 ≡ b
target_is b true h = omega arith
target_is b false h = omega arith

-- and its bit 7 is the value
value_is : (b : ℕ) (v : Bool) → b < 128 → eqb ((b + cond v 128 0) / 128) 1 ≡ v
value_is b true h = let e : (b + 128) / 128 ≡ 1 = omega arith in rw e
value_is b false h = let e : (b + 0) / 128 ≡ 0 = omega arith in rw e

-- a reply whose result is 00h is of an accepted request
answered : (n : ℕ) (p : Reply) (phys t : List ℕ) → (replied n p phys t).result ≡ 0 → n ≡ 0
unfolding replied
answered zero p phys t e = refl
answered (suc n) p phys t e = e

module _ (w : ℕ) (phys t : List ℕ) (phy carried a b : ℕ) (v : Bool) (ha : a < 128) (hb : b < 128) where
  -- groups that give no cause pass the request's checks
  passes : right w phys t phy carried ≡ true → first_refusal (group_checks w a b) ≡ 0
      → first_refusal (permission_checks w phys t phy carried (single_request a b v)) ≡ 0
  unfolding operation_checks
  passes r z =
      let k = clear (group_checks w a b) 0 (sym z) refl tt in
      let e = target_is b v hb in
      let x : 2 ≤ a % 128 = omega arith in
      let y : 2 ≤ (b + cond v 128 0) % 128 = omega arith in
      let p : a % 128 < groups w = omega arith in
      let q : (b + cond v 128 0) % 128 < groups w = omega arith in
      sym (first (next (ap not r) (next refl (next (omega arith) (next refl (next x (next y (next p (next q none)))))))))

  -- and those that pass them give no cause
  passed : first_refusal (permission_checks w phys t phy carried (single_request a b v)) ≡ 0 → first_refusal (group_checks w a b) ≡ 0
  unfolding operation_checks
  passed z =
      let k = clear (permission_checks w phys t phy carried (single_request a b v)) 0 (sym z) refl tt in
      let e = target_is b v hb in
      let x : 2 ≤ a % 128 = k.1.1.1.1.0 in
      let y : 2 ≤ (b + cond v 128 0) % 128 = k.1.1.1.1.1.0 in
      let p : a % 128 < groups w = k.1.1.1.1.1.1.0 in
      let q : (b + cond v 128 0) % 128 < groups w = k.1.1.1.1.1.1.1.0 in
      sym (first (next (omega arith) (next (omega arith) (next (omega arith) (next (omega arith) none)))))

  -- the request's order is the line's
  orders : orders_of w (single_request a b v) ≡ order a b v ∷ []
  unfolding orders_of
  orders = let e : a % 128 ≡ a = omega arith in rw (e, target_is b v hb, value_is b v hb)

-- so a line is that request, in what it asks and in what it does
pub line_is_order : LineIsOrder
unfolding permission_reply replied
line_is_order w phys t phy carried a b v ha hb r = (
  λ z. rw (passes w phys t phy carried a b v ha hb r z)
      (ap (λ (os : List Order). record { result = 0x00; rest = []; set = empty_set; phys = phys; permissions = apply w os t }) (orders w phys t phy carried a b v ha hb)),
  λ e. passed w phys t phy carried a b v ha hb (answered (first_refusal (permission_checks w phys t phy carried (single_request a b v))) _ phys t e),
)
