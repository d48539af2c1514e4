-- A single order, a batch and a report that the console built: what `smp` answers a caller with the right.
-- Assumes nothing.
use mathlib.Core.Path.{◌≡◌, refl, ◌∙◌}
use mathlib.Core.Bool.{Bool, true, false, cond, ◌&&◌}
use mathlib.Core.List.{List, [], ◌∷◌}
use Prim.Native.Nat.{ℕ, ◌+◌, ◌-◌, ◌*◌, ◌/◌, ◌%◌, ◌≤◌, ◌<◌, min}
use native.Mathlib.Decide.{dec_lt}
use native.Mathlib.Omega.{arith}
use borrow.Author.Tests.{lt-ltb, le-ltb, le-leb, lt-leb, eq-eqb, ne_eqb}
use lib.Dec.{eqb, ltb, leb}
use lib.ListN.{length, get_or, drop}
use Rattle.wire.specs.Bits.{num}
use Rattle.wire.proofs.BitLaws.{num_le, eqb_num}
use Rattle.permit.specs.Permission.{groups}
use Rattle.permit.specs.Orders.{order, apply, rows_end}
use Rattle.tables.specs.Refusals.{first_refusal}
use Rattle.tables.specs.Phys.{phy_count, ready_set, empty_set}
use Rattle.requests.specs.Requests.{right, replied}
use Rattle.zone_permission.specs.ZonePermission.{operation, source, target, operation_checks, permission_checks, orders_of, permission_reply}
use Rattle.zone_report.specs.ZoneReport as report-words
use Rattle.zone_report.specs.ZoneReport.{report_reply}
use Rattle.discover.specs.declared.Changes.{Changes}
use Rattle.rules.specs.Rules.{smp_reply}
use Rattle.rules.proofs.RuleLaws.{is_c1, is_51}
use Rattle.console_orders.specs.Building.{single_request, report_request}
use Rattle.console_rows.specs.Batches.{choice_rows, batch_request}
use Rattle.console_rows.proofs.BatchLaws.{batch-length}
use Rattle.console.specs.Asks.{single, batch, report, chosen_orders, result_named, named}
use Rattle.console.proofs.Rows.{rows_same, packed_read}

-- ---- C1h: what the checks answer a caller with the right
module _ (w : ℕ) (phys permissions : List ℕ) (phy carried : ℕ) (r : right w phys permissions phy carried ≡ true) (request : List ℕ)
    (el : length request ≡ 4 + 4 * get_or request 3 0) (l : 12 ≤ length request) where
  single_checked : operation request ≡ 8 → length request ≡ 12
      → first_refusal (permission_checks w phys permissions phy carried request)
      ≡ cond (ltb (source request) 2) 2 (cond (ltb (target request) 2) 2 (cond (leb (groups w) (source request)) 2 (cond (leb (groups w) (target request)) 2 0)))
  unfolding first_refusal operation_checks
  single_checked o m =
      rw (r, eq-eqb (length request) (4 + 4 * get_or request 3 0) el, le-ltb (length request) 12 l, eq-eqb (operation request) 8 o, eq-eqb (length request) 12 m)

  batch_checked : operation request ≡ 9 → length request ≡ 12 + 16 * get_or request 11 0
      → first_refusal (permission_checks w phys permissions phy carried request)
      ≡ cond (ltb 128 (get_or request 10 0 + get_or request 11 0)) 0x11
      (cond (ltb (get_or request 10 0) 2 && ltb 0 (get_or request 11 0)) 2 (cond (ltb (groups w) (rows_end (get_or request 10 0) (get_or request 11 0))) 2 0))
  unfolding first_refusal operation_checks
  batch_checked o m =
      let n : operation request ≡ 8 → ⊥ = λ z. omega arith in
      rw (
        r,
        eq-eqb (length request) (4 + 4 * get_or request 3 0) el,
        le-ltb (length request) 12 l,
        ne_eqb (operation request) 8 n,
        eq-eqb (operation request) 9 o,
        eq-eqb (length request) (12 + 16 * get_or request 11 0) m,
      )

-- ---- a single order
module _ (a b : ℕ) (new complete : Bool) (ha : a ≤ 127) (hb : b ≤ 127) where
  single-target : (128 * num new + b) % 128 ≡ b
  single-target = omega (arith, num_le new)

  single_new : eqb ((128 * num new + b) / 128) 1 ≡ new
  single_new = let e : (128 * num new + b) / 128 ≡ num new = omega (arith, num_le new) in rw e (eqb_num new)

  single-operation : (0x80 + num complete) / 16 ≡ 8
  single-operation = omega (arith, num_le complete)

  single-source : a % 128 ≡ a
  single-source = omega arith

  pub single-orders : (w : ℕ) → orders_of w (single_request a b new complete) ≡ order a b new ∷ []
  unfolding orders_of
  single-orders w = rw (eq-eqb ((0x80 + num complete) / 16) 8 single-operation, single-target, single_new, single-source)

  complete_set : (phys : List ℕ) → cond (eqb ((0x80 + num complete) % 2) 1) (ready_set phys) empty_set ≡ cond complete (ready_set phys) empty_set
  complete_set phys = let e : (0x80 + num complete) % 2 ≡ num complete = omega (arith, num_le complete) in rw (e, eqb_num complete)

  pub single_answer : (w : ℕ) (phys permissions : List ℕ) (phy carried : ℕ) → right w phys permissions phy carried ≡ true
      → first_refusal (permission_checks w phys permissions phy carried (single_request a b new complete))
      ≡ cond (ltb a 2) 2 (cond (ltb b 2) 2 (cond (leb (groups w) a) 2 (cond (leb (groups w) b) 2 0)))
  single_answer w phys permissions phy carried r =
      single_checked w phys permissions phy carried r (single_request a b new complete) refl (omega arith) single-operation refl
      ∙ rw (single-target, single-source)

  -- a group that the table does not hold, asked from either side
  both_held : (g : ℕ) → ◌≡◌ {A = ℕ} (cond (leb g a) 2 (cond (leb g b) 2 0)) (cond (ltb a g && ltb b g) 0 2)
  both_held g = go (dec_lt a g) (dec_lt b g)
    where
      go : Dec (a < g) → Dec (b < g) → ◌≡◌ {A = ℕ} (cond (leb g a) 2 (cond (leb g b) 2 0)) (cond (ltb a g && ltb b g) 0 2)
      go (no x) d = let y : g ≤ a = omega arith in rw (le-leb g a y, le-ltb a g y)
      go (yes x) (no z) = let y : g ≤ b = omega arith in rw (lt-leb g a x, lt-ltb a g x, le-leb g b y, le-ltb b g y)
      go (yes x) (yes z) = rw (lt-leb g a x, lt-ltb a g x, lt-leb g b z, lt-ltb b g z)

  pub single_result : (w : ℕ) (phys permissions : List ℕ) (phy carried : ℕ) → right w phys permissions phy carried ≡ true → 2 ≤ a → 2 ≤ b
      → first_refusal (permission_checks w phys permissions phy carried (single_request a b new complete)) ≡ result_named w (phy_count phys) (single a b new complete)
  unfolding result_named
  single_result w phys permissions phy carried r la lb =
      single_answer w phys permissions phy carried r ∙ rw (le-ltb a 2 la, le-ltb b 2 lb) (both_held (groups w))

  pub single_said : (w : ℕ) (phys permissions : List ℕ) (phy carried : ℕ) (changes : Changes) → right w phys permissions phy carried ≡ true → 2 ≤ a → 2 ≤ b
      → smp_reply w phys permissions phy carried changes (single_request a b new complete) ≡ named w (single a b new complete) phys permissions
  unfolding permission_reply named
  single_said w phys permissions phy carried changes r la lb =
      is_c1 w phys permissions phy carried changes (single_request a b new complete) refl
      ∙ rw (single_result w phys permissions phy carried r la lb, single-orders w, complete_set phys)

-- ---- a batch
module _ (start : ℕ) (choices : List ℕ) (complete : Bool) (whole : length choices % 128 ≡ 0) (h : length choices ≤ 8064) where
  abbrev K : ℕ
  K = choice_rows choices

  abbrev B : List ℕ
  B = batch_request start choices complete

  batch-operation : (0x90 + num complete) / 16 ≡ 9
  batch-operation = omega (arith, num_le complete)

  head_1 : get_or B 1 0 ≡ 0xc1
  unfolding batch_request
  head_1 = refl

  head_3 : get_or B 3 0 ≡ 2 + 4 * K
  unfolding batch_request
  head_3 = refl

  head_9 : get_or B 9 0 ≡ 0x90 + num complete
  unfolding batch_request
  head_9 = refl

  head_10 : get_or B 10 0 ≡ start
  unfolding batch_request
  head_10 = refl

  head_11 : get_or B 11 0 ≡ K
  unfolding batch_request
  head_11 = refl

  batch_not_8 : get_or B 9 0 / 16 ≡ 8 → ⊥
  batch_not_8 z = omega (arith, batch-operation, head_9)

  pub batch-orders : (w : ℕ) → w ≤ 16 → orders_of w B ≡ chosen_orders w choices start 0 K
  unfolding orders_of
  batch-orders w b =
      rw (ne_eqb (get_or B 9 0 / 16) 8 batch_not_8, head_10, head_11)
      (rows_same w b (drop 12 B) choices start 0 K (λ m j l u b. packed_read start m j choices complete (omega arith) b))

  pub batch_answer : (w : ℕ) (phys permissions : List ℕ) (phy carried : ℕ) → right w phys permissions phy carried ≡ true
      → first_refusal (permission_checks w phys permissions phy carried B)
      ≡ cond (ltb 128 (start + K)) 0x11 (cond (ltb start 2 && ltb 0 K) 2 (cond (ltb (groups w) (rows_end start K)) 2 0))
  batch_answer w phys permissions phy carried r =
      let l = batch-length start choices [] complete in
      let o : get_or B 9 0 / 16 ≡ 9 = omega (arith, batch-operation, head_9) in
      batch_checked w phys permissions phy carried r B (omega (arith, l, head_3)) (omega (arith, l)) o (omega (arith, l, head_11))
      ∙ rw (head_10, head_11)

  batch-set : (phys : List ℕ) → cond (eqb (get_or B 9 0 % 2) 1) (ready_set phys) empty_set ≡ cond complete (ready_set phys) empty_set
  batch-set phys = let e : get_or B 9 0 % 2 ≡ num complete = omega (arith, num_le complete, head_9) in rw (e, eqb_num complete)

  pub batch_result : (w : ℕ) (phys permissions : List ℕ) (phy carried : ℕ) → right w phys permissions phy carried ≡ true → (ltb start 2 && ltb 0 K) ≡ false
      → first_refusal (permission_checks w phys permissions phy carried B) ≡ result_named w (phy_count phys) (batch start choices complete)
  unfolding result_named
  batch_result w phys permissions phy carried r low = batch_answer w phys permissions phy carried r ∙ rw low

  pub batch_said : (w : ℕ) (phys permissions : List ℕ) (phy carried : ℕ) (changes : Changes) → w ≤ 16 → right w phys permissions phy carried ≡ true
      → (ltb start 2 && ltb 0 K) ≡ false
      → smp_reply w phys permissions phy carried changes B ≡ named w (batch start choices complete) phys permissions
  unfolding permission_reply named
  batch_said w phys permissions phy carried changes b r low =
      is_c1 w phys permissions phy carried changes B head_1
      ∙ rw (batch_result w phys permissions phy carried r low, batch-orders w b, batch-set phys)

-- ---- a report: from the first group asked for, as many rows as are asked for and there are
report-asks : (start count : ℕ) → count ≤ 63 → report-words.row_count (report_request start count) ≡ min count (128 - start)
unfolding report-words.row_count
report-asks start count h = omega arith

pub report_said : (start count w : ℕ) (phys permissions : List ℕ) (phy carried : ℕ) (changes : Changes) → right w phys permissions phy carried ≡ true
    → start ≤ 127 → count ≤ 63
    → smp_reply w phys permissions phy carried changes (report_request start count) ≡ named w (report start count) phys permissions
unfolding report_reply replied first_refusal named result_named report-words.rows apply
report_said start count w phys permissions phy carried changes r hs hc =
    is_51 w phys permissions phy carried changes (report_request start count) refl ∙ rw (r, le-ltb 127 start hs, report-asks start count hc)
