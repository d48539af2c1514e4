-- Of everything that the console builds: no call with it is refused, the library reads it as the same order, it is never answered 03h nor, by
-- document 01's shelf, 02h, and 24 is exact.
-- Assumes nothing.
use mathlib.Core.Path.{◌≡◌, refl, sym, ap, ◌∙◌}
use mathlib.Core.Bool.{Bool, true, false, cond, not, ◌&&◌, true≢false}
use mathlib.Core.List.{List, [], ◌∷◌}
use Prim.Native.Nat.{ℕ, zero, suc, ◌+◌, ◌*◌, ◌%◌, ◌≤◌, ◌<◌}
use native.Mathlib.Omega.{arith}
use borrow.Author.Tests.{lt-ltb, le-ltb, ltb-true, ltb-false, leb-true}
use lib.Dec.{eqb, ltb, leb}
use lib.ListN.{length, get_or}
use Rattle.std.proofs.Common.{Option, Some, None}
use Rattle.wire.specs.declared.ZoneGroup.{ZoneGroup}
use Rattle.wire.specs.Groups.{is_group}
use Rattle.wire.specs.Bits.{bit, tab}
use Rattle.wire.proofs.Loops.{length-tab}
use Rattle.permit.specs.Permission.{groups, permissions_sized, P, place, reaches, start_byte, start_table}
use Rattle.permit.specs.Orders.{Order, rows_end}
use Rattle.tables.specs.Refusals.{Check, Test, refuse, holds, first_refusal, Fails}
use Rattle.tables.specs.Outcome.{outcome}
use Rattle.tables.specs.Phys.{phy_record, phy_count, phys_sized}
use Rattle.tables.specs.Arrival.{arrival_checks}
use Rattle.tables.proofs.RefusalLaws.{clear, first, next, none}
use Rattle.tables.proofs.ArrivalLaws.{both, arrived, arrival_back}
use Rattle.requests.specs.Requests.{smp_source, source_reaches, right, Reply}
use Rattle.phy_zone.specs.PhyZone.{phy_zone_checks, phy_zone_reply}
use Rattle.zone_permission.specs.ZonePermission.{permission_checks, permission_reply, orders_of}
use Rattle.discover.specs.declared.Changes.{Changes}
use Rattle.rules.specs.Rules.{function_of, smp_reply}
use Rattle.rules.proofs.RuleLaws.{is_93, is_c1, field_most}
use Rattle.smp.specs.Smp.{room_for, smp_checks, accepted_orders}
use Rattle.console_orders.specs.Building.{single_checks, single_request, report_checks}
use Rattle.console_rows.specs.Batches.{choice_rows, batch_checks, batch_request}
use Rattle.wire.specs.Runs.{every}
use Rattle.console_zones.specs.Zones.{entry_count, fair, barred, phy_zones_checks, phy_zones_request}
use Rattle.console_rows.proofs.BatchLaws.{batch-length}
use Rattle.console_zones.proofs.ZoneLaws.{zones_length}
use Rattle.console.specs.Asks.{Ask, zones, single, batch, report, checks_of, request_of, orders_named, held, result_named, named, Rightful}
use Rattle.console.specs.Promises.{SameOrder, Never, Fails02, Exact24}
use Rattle.console.proofs.Orders.{single_answer, single-orders, single_said, batch_answer, batch-orders, batch_said, report_said}
use Rattle.console.proofs.Zones.{zones_answer, held_16, zones_said}
use Rattle.console.proofs.Reports.{replied_result}

-- ---- the heads of what is built
zones_function : (start : ℕ) (es : List ℕ) → function_of (phy_zones_request start es) ≡ 0x93
unfolding phy_zones_request
zones_function start es = refl

batch_function : (start : ℕ) (choices : List ℕ) (complete : Bool) → function_of (batch_request start choices complete) ≡ 0xc1
unfolding batch_request
batch_function start choices complete = refl

begins_40 : (ask : Ask) → get_or (request_of ask) 0 0 ≡ 0x40
unfolding phy_zones_request batch_request
begins_40 (zones start es) = refl
begins_40 (single a b new complete) = refl
begins_40 (batch start choices complete) = refl
begins_40 (report start count) = refl

four_long : (ask : Ask) → 4 ≤ length (request_of ask)
four_long (zones start es) = omega (arith, zones_length start es [])
four_long (single a b new complete) = omega arith
four_long (batch start choices complete) = omega (arith, batch-length start choices [] complete)
four_long (report start count) = omega arith

-- ---- the call is not refused: a caller with the right speaks for a group
right-group : (w : ℕ) (phys permissions : List ℕ) (phy carried : ℕ) → right w phys permissions phy carried ≡ true → is_group (smp_source phys phy carried) ≡ true
unfolding right
right-group w phys permissions phy carried r = go (smp_source phys phy carried) r
  where
    go : (o : Option ZoneGroup) → source_reaches w permissions o 2 ≡ true → is_group o ≡ true
    go (Some a) e = refl
    go None e = absurd (true≢false (sym e))

pub taken : (ask : Ask) (w : ℕ) (phys permissions : List ℕ) (phy carried : ℕ) (changes : Changes) (room : Bool) → Rightful w phys permissions phy carried room
    → first_refusal (smp_checks w phys permissions phy carried changes (request_of ask) room) ≡ 0
taken ask w phys permissions phy carried changes room r =
    let g : not (is_group (smp_source phys phy carried)) ≡ false = rw (right-group w phys permissions phy carried r.may) in
    sym (arrival_back phys phy (permissions_sized w permissions) room true (permissions_sized w permissions) refl _ 0 (sym r.arrives)
    (first (next (four_long ask) (next (begins_40 ask) (next g (next (field_most w phys permissions phy carried changes (request_of ask)) none))))))

-- ---- what it says
said : (ask : Ask) (given : ℕ) → first_refusal (checks_of given ask) ≡ 0
    → (w : ℕ) (phys permissions : List ℕ) (phy carried : ℕ) (changes : Changes) (room : Bool) → Rightful w phys permissions phy carried room
    → smp_reply w phys permissions phy carried changes (request_of ask) ≡ named w ask phys permissions
said (zones start es) given z w phys permissions phy carried changes room r =
    let c = clear (phy_zones_checks given start es) 0 (sym z) refl tt in
    let a = arrived phys phy (permissions_sized w permissions) room true 0 (sym r.arrives) refl in
    zones_said start es c.1.1.0 c.1.0 c.1.1.1.0 c.1.1.1.1.0 w phys permissions phy carried changes r.may a.most c.1.1.1.1.1.0
said (single a b new complete) given z w phys permissions phy carried changes room r =
    let c = clear (single_checks given a b) 0 (sym z) refl tt in
    single_said a b new complete c.1.0 c.1.1.0 w phys permissions phy carried changes r.may c.1.1.1.0 c.1.1.1.1.0
said (batch start choices complete) given z w phys permissions phy carried changes room r =
    let c = clear (batch_checks given start choices) 0 (sym z) refl tt in
    batch_said start choices complete c.1.1.0 c.1.0 w phys permissions phy carried changes r.width.most r.may c.1.1.1.1.0
said (report start count) given z w phys permissions phy carried changes room r =
    let c = clear (report_checks given start count) 0 (sym z) refl tt in
    report_said start count w phys permissions phy carried changes r.may c.1.1.0 c.1.0

named_result : (w : ℕ) (ask : Ask) (phys permissions : List ℕ) → (named w ask phys permissions).result ≡ result_named w (phy_count phys) ask
unfolding named
named_result w ask phys permissions = replied_result (result_named w (phy_count phys) ask) _ _ _ _ phys permissions

none_either : (x : Bool) → ◌≡◌ {A = List Order} [] (cond x [] [])
none_either true = refl
none_either false = refl

-- ---- the orders of what is built are those that the choices name; 93h and 51h have none
orders_said : (ask : Ask) (given : ℕ) → first_refusal (checks_of given ask) ≡ 0 → (w : ℕ) → w ≤ 16 → (x : Bool)
    → cond (eqb (function_of (request_of ask)) 0xc1 && x) (orders_of w (request_of ask)) [] ≡ cond x (orders_named w ask) []
orders_said (zones start es) given z w b x = rw (zones_function start es) (none_either x)
orders_said (single a b new complete) given z w l x =
    let c = clear (single_checks given a b) 0 (sym z) refl tt in
    rw (single-orders a b new complete c.1.0 c.1.1.0 w)
orders_said (batch start choices complete) given z w l x =
    let c = clear (batch_checks given start choices) 0 (sym z) refl tt in
    rw (batch_function start choices complete, batch-orders start choices complete c.1.1.0 c.1.0 w l)
orders_said (report start count) given z w l x = none_either x

pub same-order : SameOrder
unfolding outcome accepted_orders
same-order ask given z w phys permissions phy carried changes response set r =
    let t = taken ask w phys permissions phy carried changes (room_for response set) r in
    let s = said ask given z w phys permissions phy carried changes (room_for response set) r in
    (rw (t, s), rw (t, s, named_result w ask phys permissions) (orders_said ask given z w r.width.most (eqb (result_named w (phy_count phys) ask) 0)))

-- ---- what is built is never answered 03h, nor by document 01's shelf 02h
not_three : (x y : Bool) (n : ℕ) → 4 ≤ n → (cond x n (cond y 0 2) ≡ 3 → ⊥) × (cond x n (cond y 2 0) ≡ 3 → ⊥)
not_three true y n h = ((λ e. omega arith), (λ e. omega arith))
not_three false true n h = ((λ e. omega arith), (λ e. omega arith))
not_three false false n h = ((λ e. omega arith), (λ e. omega arith))

never_03 : (ask : Ask) (w phys : ℕ) → result_named w phys ask ≡ 0x03 → ⊥
unfolding result_named
never_03 (zones start es) w phys e = (not_three (ltb phys (start + entry_count es)) (every (held w es) 0 (entry_count es)) 0x10 (omega arith)).0 e
never_03 (single a b new complete) w phys e = (not_three false (ltb a (groups w) && ltb b (groups w)) 0x10 (omega arith)).0 e
never_03 (batch start choices complete) w phys e =
    (not_three (ltb 128 (start + choice_rows choices)) (ltb (groups w) (rows_end start (choice_rows choices))) 0x11 (omega arith)).1 e
never_03 (report start count) w phys e = omega arith

past : (x : Bool) (n : ℕ) → 4 ≤ n → cond x n 0 ≡ 2 → ⊥
past true n h e = omega arith
past false n h e = omega arith

-- a batch that ends by group 128 has no row for a later one
ends_128 : (start k : ℕ) → start + k ≤ 128 → rows_end start k ≤ 128
unfolding rows_end
ends_128 start zero h = omega arith
ends_128 start (suc k) h = h

never_02 : (ask : Ask) (given phys : ℕ) → first_refusal (checks_of given ask) ≡ 0 → result_named 16 phys ask ≡ 0x02 → ⊥
unfolding result_named
never_02 (zones start es) given phys z e =
    let c = clear (phy_zones_checks given start es) 0 (sym z) refl tt in
    past (ltb phys (start + entry_count es)) 0x10 (omega arith)
    (rw (held_16 start es c.1.1.0 c.1.0 c.1.1.1.0 c.1.1.1.1.0 0 (entry_count es) (omega arith)) at e)
never_02 (single a b new complete) given phys z e =
    let c = clear (single_checks given a b) 0 (sym z) refl tt in
    let p = c.1 in
    let ha : a < 128 = omega arith in
    let hb : b < 128 = omega arith in
    let q : ◌≡◌ {A = ℕ} 0 2 = rw (lt-ltb a 128 ha, lt-ltb b 128 hb) at e in
    omega arith
never_02 (batch start choices complete) given phys z e = go (ltb 128 (start + choice_rows choices)) refl e
  where
    go : (x : Bool) → ltb 128 (start + choice_rows choices) ≡ x
        → ◌≡◌ {A = ℕ} (cond x 0x11 (cond (ltb 128 (rows_end start (choice_rows choices))) 0x02 0x00)) 2 → ⊥
    go true q h = omega arith
    go false q h =
        let l : start + choice_rows choices ≤ 128 = ltb-false _ _ q in
        let m : ◌≡◌ {A = ℕ} 0 2 = rw (le-ltb 128 (rows_end start (choice_rows choices)) (ends_128 start (choice_rows choices) l)) at h in
        omega arith
never_02 (report start count) given phys z e = omega arith

pub never : Never
never ask given z w phys permissions phy carried changes room r =
    let s : (smp_reply w phys permissions phy carried changes (request_of ask)).result ≡ result_named w (phy_count phys) ask =
    ap (λ (p : Reply). p.result) (said ask given z w phys permissions phy carried changes room r) ∙ named_result w ask phys permissions in (
      (λ e. never_03 ask w (phy_count phys) (sym s ∙ e)),
      λ h e. never_02 ask given (phy_count phys) z (ap (λ (v : ℕ). result_named v (phy_count phys) ask) (sym h) ∙ sym s ∙ e),
    )

-- ---- 24 is exact: rows that are passed on the way to it
passed_row : (n : ℕ) (t : Test) (cs : List Check) → n < 24 → first_refusal (refuse n t ∷ cs) ≡ 24 → Fails t × (first_refusal cs ≡ 24)
unfolding first_refusal
passed_row n t cs l e = go (holds t) refl e
  where
    go : (b : Bool) → holds t ≡ b → cond b n (first_refusal cs) ≡ 24 → Fails t × (first_refusal cs ≡ 24)
    go true q h = absurd (omega arith)
    go false q h = ((clear (refuse 1 t ∷ []) 0 (rw q) refl tt).0, h)

-- a shelf of n phys, all of group 1 and ready, with the table of start-up
shelf_byte : ℕ → ℕ
shelf_byte i = cond (eqb (i % phy_record) 1) 1 (cond (eqb (i % phy_record) 2) 1 0)

shelf_of : ℕ → List ℕ
shelf_of n = tab shelf_byte 0 (phy_record * n)

none_counted : Changes
none_counted = record { expander = 0; phy = 0 }

shelf_rightful : Rightful 16 (shelf_of 128) (start_table 16) 0 0 true
unfolding shelf_of shelf_byte first_refusal arrival_checks phys_sized right smp_source reaches P place bit start_table start_byte tab
shelf_rightful = record { width = record { some = omega arith; most = omega arith }; arrives = refl; may = refl }

shelf_128 : phy_count (shelf_of 128) ≡ 128
unfolding shelf_of
shelf_128 = let l = length-tab shelf_byte 0 2048 in omega arith

fails_by : (ask : Ask) → (smp_reply 16 (shelf_of 128) (start_table 16) 0 0 none_counted (request_of ask)).result ≡ 0x02 → Fails02 ask
fails_by ask e = record {
  phys = shelf_of 128;
  permissions = start_table 16;
  phy = 0;
  carried = 0;
  changes = none_counted;
  rightful = shelf_rightful;
  fails = e;
}

result_93 : (request : List ℕ) → function_of request ≡ 0x93
    → (smp_reply 16 (shelf_of 128) (start_table 16) 0 0 none_counted request).result ≡ first_refusal (phy_zone_checks 16 (shelf_of 128) (start_table 16) 0 0 request)
unfolding phy_zone_reply
result_93 request e = ap (λ (p : Reply). p.result) (is_93 16 (shelf_of 128) (start_table 16) 0 0 none_counted request e) ∙ replied_result _ _ _ _ _ (shelf_of 128) (start_table 16)

result_c1 : (request : List ℕ) → function_of request ≡ 0xc1
    → (smp_reply 16 (shelf_of 128) (start_table 16) 0 0 none_counted request).result ≡ first_refusal (permission_checks 16 (shelf_of 128) (start_table 16) 0 0 request)
unfolding permission_reply
result_c1 request e = ap (λ (p : Reply). p.result) (is_c1 16 (shelf_of 128) (start_table 16) 0 0 none_counted request e) ∙ replied_result _ _ _ _ _ (shelf_of 128) (start_table 16)

-- what is refused as 24 that shelf answers 02h
two : (x y : Bool) (n : ℕ) → ◌≡◌ {A = ℕ} (cond x 24 (cond y 24 0)) 24 → ◌≡◌ {A = ℕ} (cond x 2 (cond y 2 n)) 2
two true y n e = refl
two false true n e = refl
two false false n e = absurd (omega arith)

one : (x : Bool) → ◌≡◌ {A = ℕ} (cond x 24 0) 24 → x ≡ true
one true e = refl
one false e = absurd (omega arith)

two-rows : (s t : Test) (n : ℕ) → first_refusal (refuse 24 s ∷ refuse 24 t ∷ []) ≡ 24 → ◌≡◌ {A = ℕ} (cond (holds s) 2 (cond (holds t) 2 n)) 2
unfolding first_refusal
two-rows s t n e = two (holds s) (holds t) n e

one_row : (t : Test) → first_refusal (refuse 24 t ∷ []) ≡ 24 → holds t ≡ true
unfolding first_refusal
one_row t e = one (holds t) e

single_24 : (given a b : ℕ) (new complete : Bool) → first_refusal (single_checks given a b) ≡ 24 → Fails02 (single a b new complete)
single_24 given a b new complete e =
    let p = passed_row 21 _ _ (omega arith) e in
    let q = passed_row 23 _ _ (omega arith) p.1 in
    let r = passed_row 23 _ _ (omega arith) q.1 in
    fails_by (single a b new complete)
    (result_c1 (single_request a b new complete) refl
    ∙ single_answer a b new complete q.0 r.0 16 (shelf_of 128) (start_table 16) 0 0 shelf_rightful.may
    ∙ two-rows _ _ _ r.1)

batch_24 : (given start : ℕ) (choices : List ℕ) (complete : Bool) → first_refusal (batch_checks given start choices) ≡ 24 → Fails02 (batch start choices complete)
batch_24 given start choices complete e =
    let p = passed_row 21 _ _ (omega arith) e in
    let q = passed_row 22 _ _ (omega arith) p.1 in
    let r = passed_row 22 _ _ (omega arith) q.1 in
    let s = passed_row 23 _ _ (omega arith) r.1 in
    let low : (ltb start 2 && ltb 0 (choice_rows choices)) ≡ true = one_row _ s.1 in
    let l : start < 2 = ltb-true start 2 (both _ _ low).0 in
    let m : length choices ≤ 8064 = q.0 in
    let n : start + choice_rows choices ≤ 128 = omega arith in
    fails_by (batch start choices complete)
    (result_c1 (batch_request start choices complete) (batch_function start choices complete)
    ∙ batch_answer start choices complete r.0 m 16 (shelf_of 128) (start_table 16) 0 0 shelf_rightful.may
    ∙ rw (le-ltb 128 (start + choice_rows choices) n, low))

zones_24 : (given start : ℕ) (es : List ℕ) → first_refusal (phy_zones_checks given start es) ≡ 24 → Fails02 (zones start es)
unfolding barred
zones_24 given start es e =
    let p = passed_row 21 _ _ (omega arith) e in
    let q = passed_row 22 _ _ (omega arith) p.1 in
    let r = passed_row 22 _ _ (omega arith) q.1 in
    let s = passed_row 23 _ _ (omega arith) r.1 in
    let t = passed_row 23 _ _ (omega arith) s.1 in
    let bar : (leb (start + entry_count es) 128 && not (every (fair es) 0 (entry_count es))) ≡ true = one_row _ t.1 in
    let c = both _ _ bar in
    let l : start + entry_count es ≤ 128 = leb-true (start + entry_count es) 128 c.0 in
    let n : start + entry_count es ≤ phy_count (shelf_of 128) = omega (arith, shelf_128) in
    fails_by (zones start es)
    (result_93 (phy_zones_request start es) (zones_function start es)
    ∙ zones_answer start es r.0 q.0 s.0 t.0 16 (shelf_of 128) (start_table 16) 0 0 shelf_rightful.may
    ∙ rw (le-ltb (phy_count (shelf_of 128)) (start + entry_count es) n, held_16 start es r.0 q.0 s.0 t.0 0 (entry_count es) (omega arith), c.1))

empty : first_refusal [] ≡ 24 → ⊥
unfolding first_refusal
empty h = omega arith

report_24 : (given start count : ℕ) → first_refusal (report_checks given start count) ≡ 24 → ⊥
report_24 given start count e =
    let p = passed_row 21 _ _ (omega arith) e in
    let q = passed_row 22 _ _ (omega arith) p.1 in
    let r = passed_row 23 _ _ (omega arith) q.1 in
    empty r.1

pub exact_24 : Exact24
exact_24 ask given = (to ask given, λ z f. (never ask given z 16 _ _ _ _ _ _ f.rightful).1 refl f.fails)
  where
    to : (ask : Ask) (given : ℕ) → first_refusal (checks_of given ask) ≡ 24 → Fails02 ask
    to (zones start es) given e = zones_24 given start es e
    to (single a b new complete) given e = single_24 given a b new complete e
    to (batch start choices complete) given e = batch_24 given start choices complete e
    to (report start count) given e = absurd (report_24 given start count e)
