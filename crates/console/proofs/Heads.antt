-- 25 refuses no more than it must: every head that is read is one that some request gets from some shelf.
-- Assumes nothing.
use mathlib.Core.Path.{◌≡◌, refl, sym, ap, ◌∙◌, subst}
use mathlib.Core.Bool.{Bool, true, false, cond, not, ◌&&◌, ◌||◌, true≢false}
use mathlib.Core.List.{List, [], ◌∷◌}
use mathlib.Core.Logic.{inl, inr}
use Prim.Native.Nat.{ℕ, ◌+◌, ◌-◌, ◌*◌, ◌/◌, ◌≤◌, min}
use native.Mathlib.Decide.{ℕ_discrete}
use native.Mathlib.Omega.{arith}
use borrow.Author.Tests.{eq-eqb, ne_eqb, eqb-true}
use lib.Dec.{eqb, ltb}
use lib.ListN.{length, get_or, take}
use Rattle.wire.specs.Bits.{bit, tab}
use Rattle.permit.specs.Permission.{P, place, reaches, start_byte, start_table}
use Rattle.shown_rows.proofs.ShownLaws.{length-shown}
use Rattle.tables.specs.Refusals.{first_refusal}
use Rattle.tables.specs.Phys.{phys_sized}
use Rattle.tables.specs.Arrival.{arrival_checks}
use Rattle.tables.proofs.RefusalLaws.{clear}
use Rattle.tables.proofs.ArrivalLaws.{both}
use Rattle.requests.specs.Requests.{right, smp_source, replied, response_of}
use Rattle.phy_zone.specs.PhyZone.{phy_zone_reply, all_sound}
use Rattle.zone_permission.specs.ZonePermission.{permission_reply, operation_checks}
use Rattle.zone_report.specs.ZoneReport.{report_reply}
use Rattle.discover.specs.declared.Changes.{Changes}
use Rattle.rules.specs.Rules.{function_of, smp_reply, length_field}
use Rattle.smp.specs.Smp.{smp_checks}
use Rattle.console_orders.specs.Building.{eight, twelve, report_request}
use Rattle.console_reading.specs.Reading.{among, possible, reports, start_of, count_of, rows_checks, short_checks, length_checks, head_checks}
use Rattle.console.specs.Asks.{report, rows_named, result_named, named, Rightful}
use Rattle.console.specs.Promises.{Ours, Got, OnlyHeads}
use Rattle.console.proofs.Orders.{report_said}
use Rattle.console.proofs.Asked.{taken}

-- a shelf of one phy, of group 1 or 0, ready, with the table of start-up
shelf : ℕ → List ℕ
shelf group = 0 ∷ group ∷ 1 ∷ 0 ∷ 0 ∷ 0 ∷ 0 ∷ 0 ∷ 0 ∷ 0 ∷ 0 ∷ 0 ∷ 0 ∷ 0 ∷ 0 ∷ 0 ∷ []

counts : Changes
counts = record { expander = 0; phy = 0 }

-- a response without rows
abbrev Short : ℕ → ℕ → List ℕ
Short f r = 0x41 ∷ f ∷ r ∷ 0 ∷ []

by : (f r group : ℕ) (request : List ℕ) → Ours request → first_refusal (smp_checks 16 (shelf group) (start_table 16) 0 0 counts request true) ≡ 0
    → response_of (function_of request) (smp_reply 16 (shelf group) (start_table 16) 0 0 counts request) ≡ Short f r → Got (Short f r)
by f r group request ours a e = record {
  w = 16;
  phys = shelf group;
  permissions = start_table 16;
  phy = 0;
  carried = 0;
  changes = counts;
  request = request;
  ours = ours;
  answered = a;
  front = ap (take 8) e;
  sized = ap length e;
}

-- each result that each function can give, but an accepted report's, worked out on that shelf
record EachShort : Type 0 where
  done_93 : Got (Short 0x93 0x00)
  no_right_93 : Got (Short 0x93 0x02)
  length_93 : Got (Short 0x93 0x03)
  phy_93 : Got (Short 0x93 0x10)
  done_c1 : Got (Short 0xc1 0x00)
  no_right_c1 : Got (Short 0xc1 0x01)
  failed_c1 : Got (Short 0xc1 0x02)
  length_c1 : Got (Short 0xc1 0x03)
  index_c1 : Got (Short 0xc1 0x11)
  no_right_51 : Got (Short 0x51 0x01)
  length_51 : Got (Short 0x51 0x03)
  index_51 : Got (Short 0x51 0x11)

each_short : EachShort
unfolding shelf counts first_refusal arrival_checks phys_sized smp_reply phy_zone_reply permission_reply report_reply replied length_field right smp_source reaches P place bit start_table start_byte tab operation_checks all_sound
each_short = record {
  done_93 = by 0x93 0x00 1 (eight 0x93 1 0 0) (inl refl) refl refl;
  no_right_93 = by 0x93 0x02 0 (eight 0x93 1 0 0) (inl refl) refl refl;
  length_93 = by 0x93 0x03 1 (0x40 ∷ 0x93 ∷ 0 ∷ 0 ∷ []) (inl refl) refl refl;
  phy_93 = by 0x93 0x10 1 (eight 0x93 1 2 0) (inl refl) refl refl;
  done_c1 = by 0xc1 0x00 1 (twelve 2 2 3 0x80 0 0) (inr (inl refl)) refl refl;
  no_right_c1 = by 0xc1 0x01 0 (twelve 2 2 3 0x80 0 0) (inr (inl refl)) refl refl;
  failed_c1 = by 0xc1 0x02 1 (twelve 2 1 8 0x80 0 0) (inr (inl refl)) refl refl;
  length_c1 = by 0xc1 0x03 1 (0x40 ∷ 0xc1 ∷ 0 ∷ 0 ∷ []) (inr (inl refl)) refl refl;
  index_c1 = by 0xc1 0x11 1 (twelve 2 0 0 0x90 129 0) (inr (inl refl)) refl refl;
  no_right_51 = by 0x51 0x01 0 (eight 0x51 1 0 0) (inr (inr refl)) refl refl;
  length_51 = by 0x51 0x03 1 (0x40 ∷ 0x51 ∷ 0 ∷ 0 ∷ []) (inr (inr refl)) refl refl;
  index_51 = by 0x51 0x11 1 (eight 0x51 1 128 0) (inr (inr refl)) refl refl;
}

-- ---- a report's head: what the console asks for is what it gets
shelf_rightful : Rightful 16 (shelf 1) (start_table 16) 0 0 true
unfolding shelf first_refusal arrival_checks phys_sized right smp_source reaches P place bit start_table start_byte tab
shelf_rightful = record { width = record { some = omega arith; most = omega arith }; arrives = refl; may = refl }

module _ (start count : ℕ) (hs : start ≤ 127) (hc : count ≤ 63) (ht : start + count ≤ 128) where
  abbrev Q : List ℕ
  Q = report_request start count

  all_there : min count (128 - start) ≡ count
  all_there = omega arith

  report_bytes : response_of 0x51 (smp_reply 16 (shelf 1) (start_table 16) 0 0 counts Q)
      ≡ 0x41 ∷ 0x51 ∷ 0x00 ∷ (2 + 4 * count) ∷ rows_named 16 (report start count) (start_table 16)
  unfolding named result_named replied
  report_bytes =
      let l = length-shown 16 (start_table 16) start (min count (128 - start)) in
      let d : length (rows_named 16 (report start count) (start_table 16)) / 4 ≡ 2 + 4 * count = omega (arith, l, all_there) in
      rw (report_said start count 16 (shelf 1) (start_table 16) 0 0 counts shelf_rightful.may hs hc, d)

  got_rows : (response : List ℕ) → take 8 response ≡ 0x41 ∷ 0x51 ∷ 0x00 ∷ (2 + 4 * count) ∷ 0 ∷ 0 ∷ start ∷ count ∷ [] → length response ≡ 12 + 16 * count
      → Got response
  got_rows response e l =
      let m = length-shown 16 (start_table 16) start (min count (128 - start)) in
      record {
        w = 16;
        phys = shelf 1;
        permissions = start_table 16;
        phy = 0;
        carried = 0;
        changes = counts;
        request = Q;
        ours = inr (inr refl);
        answered = taken (report start count) 16 (shelf 1) (start_table 16) 0 0 counts true shelf_rightful;
        front = ap (take 8) report_bytes ∙ rw all_there (sym e);
        sized = ap length report_bytes ∙ omega (arith, l, m, all_there);
      }

-- ---- by cases on function and result
abbrev Each : (ℕ → Type 0) → List ℕ → Type 0
Each Q [] = Unit
Each Q (x ∷ xs) = Q x × Each Q xs

among_each : (Q : ℕ → Type 0) (r : ℕ) (xs : List ℕ) → Each Q xs → among r xs ≡ true → Q r
unfolding among
among_each Q r [] k e = absurd (true≢false (sym e))
among_each Q r (x ∷ xs) k e = go (eqb r x) refl (among_each Q r xs k.1) e
  where
    go : (b : Bool) → eqb r x ≡ b → (among r xs ≡ true → Q r) → (b || among r xs) ≡ true → Q r
    go true q later p = subst Q (sym (eqb-true r x q)) k.0
    go false q later p = later p

abbrev Shortly : ℕ → ℕ → Type 0
Shortly f r = (f ≡ 0x51 → r ≡ 0 → ⊥) → Got (Short f r)

possible_got : (f r : ℕ) → possible f r ≡ true → Shortly f r
unfolding possible
possible_got f r e = go (ℕ_discrete f 0x93) (ℕ_discrete f 0xc1) (ℕ_discrete f 0x51) each_short
  where
    go : Dec (f ≡ 0x93) → Dec (f ≡ 0xc1) → Dec (f ≡ 0x51) → EachShort → Shortly f r
    go (yes a) y z s =
        subst (λ (g : ℕ). Shortly g r) (sym a)
        (among_each (Shortly 0x93) r (0x00 ∷ 0x02 ∷ 0x03 ∷ 0x10 ∷ [])
        ((λ n. s.done_93), ((λ n. s.no_right_93), ((λ n. s.length_93), ((λ n. s.phy_93), tt))))
        (rw (eq-eqb f 0x93 a) at e))
    go (no a) (yes b) z s =
        subst (λ (g : ℕ). Shortly g r) (sym b)
        (among_each (Shortly 0xc1) r (0x00 ∷ 0x01 ∷ 0x02 ∷ 0x03 ∷ 0x11 ∷ [])
        ((λ n. s.done_c1), ((λ n. s.no_right_c1), ((λ n. s.failed_c1), ((λ n. s.length_c1), ((λ n. s.index_c1), tt)))))
        (rw (ne_eqb f 0x93 a, eq-eqb f 0xc1 b) at e))
    go (no a) (no b) (yes c) s =
        subst (λ (g : ℕ). Shortly g r) (sym c)
        (among_each (Shortly 0x51) r (0x00 ∷ 0x01 ∷ 0x03 ∷ 0x11 ∷ [])
        ((λ n. absurd (n refl refl)), ((λ n. s.no_right_51), ((λ n. s.length_51), ((λ n. s.index_51), tt))))
        (rw (ne_eqb f 0x93 a, ne_eqb f 0xc1 b, eq-eqb f 0x51 c) at e))
    go (no a) (no b) (no c) s =
        absurd (true≢false (sym (rw (ne_eqb f 0x93 a, ne_eqb f 0xc1 b, ne_eqb f 0x51 c) at e)))

-- ---- what is known of a head that is read
record Passed (response : List ℕ) : Type 0 where
  begins : get_or response 0 0 ≡ 0x41
  known : possible (get_or response 1 0) (get_or response 2 0) ≡ true
  rest : first_refusal (length_checks response) ≡ 0

passed : (response : List ℕ) → first_refusal (head_checks response) ≡ 0 → Passed response
unfolding first_refusal
passed response e =
    go (ltb (length response) 4) (eqb (get_or response 0 0) 0x41) (possible (get_or response 1 0) (get_or response 2 0)) refl refl e
  where
    go : (a b c : Bool) → eqb (get_or response 0 0) 0x41 ≡ b → possible (get_or response 1 0) (get_or response 2 0) ≡ c
        → cond a 25 (cond (not b) 25 (cond (not c) 25 (first_refusal (length_checks response)))) ≡ 0 → Passed response
    go true b c p q h = absurd (omega arith)
    go false false c p q h = absurd (omega arith)
    go false true false p q h = absurd (omega arith)
    go false true true p q h = record { begins = eqb-true (get_or response 0 0) 0x41 p; known = q; rest = h }

four_bytes : (l : List ℕ) → length l ≡ 4 → l ≡ get_or l 0 0 ∷ get_or l 1 0 ∷ get_or l 2 0 ∷ get_or l 3 0 ∷ []
four_bytes [] e = absurd (omega arith)
four_bytes (a ∷ []) e = absurd (omega arith)
four_bytes (a ∷ b ∷ []) e = absurd (omega arith)
four_bytes (a ∷ b ∷ c ∷ []) e = absurd (omega arith)
four_bytes (a ∷ b ∷ c ∷ d ∷ []) e = refl
four_bytes (a ∷ b ∷ c ∷ d ∷ x ∷ l) e = absurd (omega arith)

eight_bytes : (l : List ℕ) → 8 ≤ length l
    → take 8 l ≡ get_or l 0 0 ∷ get_or l 1 0 ∷ get_or l 2 0 ∷ get_or l 3 0 ∷ get_or l 4 0 ∷ get_or l 5 0 ∷ get_or l 6 0 ∷ get_or l 7 0 ∷ []
eight_bytes [] h = absurd (omega arith)
eight_bytes (a ∷ []) h = absurd (omega arith)
eight_bytes (a ∷ b ∷ []) h = absurd (omega arith)
eight_bytes (a ∷ b ∷ c ∷ []) h = absurd (omega arith)
eight_bytes (a ∷ b ∷ c ∷ d ∷ []) h = absurd (omega arith)
eight_bytes (a ∷ b ∷ c ∷ d ∷ e ∷ []) h = absurd (omega arith)
eight_bytes (a ∷ b ∷ c ∷ d ∷ e ∷ f ∷ []) h = absurd (omega arith)
eight_bytes (a ∷ b ∷ c ∷ d ∷ e ∷ f ∷ g ∷ []) h = absurd (omega arith)
eight_bytes (a ∷ b ∷ c ∷ d ∷ e ∷ f ∷ g ∷ k ∷ l) h = refl

-- ---- every head that is not refused is one that some request gets from some shelf
rows_got : (response : List ℕ) → Passed response → reports response ≡ true → Got response
unfolding length_checks reports
rows_got response p t =
    let q = both _ _ t in
    let e : first_refusal (cond (eqb (get_or response 1 0) 0x51 && eqb (get_or response 2 0) 0x00) (rows_checks response) (short_checks response)) ≡ 0 = p.rest in
    let c = clear (rows_checks response) 0 (sym (rw t at e)) refl tt in
    got_rows (start_of response) (count_of response) (omega arith) (omega arith) (omega arith) response
    (eight_bytes response (omega arith)
    ∙ rw (p.begins, eqb-true (get_or response 1 0) 0x51 q.0, eqb-true (get_or response 2 0) 0x00 q.1, c.1.0, c.1.1.0, c.1.1.1.1.1.1.0))
    (omega arith)

reports-yes : (response : List ℕ) → get_or response 1 0 ≡ 0x51 → get_or response 2 0 ≡ 0 → reports response ≡ true
unfolding reports
reports-yes response a b = rw (eq-eqb (get_or response 1 0) 0x51 a, eq-eqb (get_or response 2 0) 0 b)

short_got : (response : List ℕ) → Passed response → reports response ≡ false → Got response
unfolding length_checks
short_got response p t =
    let e : first_refusal (cond (reports response) (rows_checks response) (short_checks response)) ≡ 0 = p.rest in
    let c = clear (short_checks response) 0 (sym (rw t at e)) refl tt in
    subst Got (sym (four_bytes response c.0 ∙ rw (p.begins, c.1.0)))
    (possible_got (get_or response 1 0) (get_or response 2 0) p.known (λ a b. true≢false (sym (reports-yes response a b) ∙ t)))

pub only_heads_lem : OnlyHeads
only_heads_lem response e = go (reports response) refl
  where
    go : (b : Bool) → reports response ≡ b → Got response
    go true t = rows_got response (passed response e) t
    go false t = short_got response (passed response e) t
