-- What the library reports, the console reads as the same rows; and every response to one of the three functions is read.
-- Assumes nothing.
use mathlib.Core.Path.{◌≡◌, refl, sym, ap, ap₂, ◌∙◌}
use mathlib.Core.Bool.{Bool, true, false, cond, ◌&&◌}
use mathlib.Core.List.{List, [], ◌∷◌}
use mathlib.Core.Logic.{inl, inr}
use Prim.Native.Nat.{ℕ, zero, suc, ◌+◌, ◌*◌, ◌/◌, ◌%◌, ◌≤◌, ◌<◌}
use native.Mathlib.Nat.{zero-add}
use native.Mathlib.Decide.{ℕ_discrete}
use native.Mathlib.Omega.{arith}
use borrow.Author.Tests.{ne_eqb, eqb-true}
use lib.Dec.{eqb}
use lib.ListN.{length, get_or, take, drop, get_or-append}
use lib.Seq.{take_at}
use Rattle.wire.specs.Bits.{num, tab}
use Rattle.wire.proofs.Loops.{length-tab, get_or-tab}
use Rattle.permit.specs.Permission.{P, reaches}
use Rattle.permit.proofs.ReachLaws.{reach_in}
use Rattle.shown_rows.specs.ShownRows.{shown_byte, shown_rows}
use Rattle.tables.specs.Refusals.{Check, refuse, on, holds, first_refusal}
use Rattle.tables.specs.Outcome.{answer, out, outcome}
use Rattle.tables.proofs.RefusalLaws.{first, next, none}
use Rattle.tables.proofs.ArrivalLaws.{both}
use Rattle.requests.specs.Requests.{Reply, replied, response_of}
use Rattle.requests.proofs.RequestLaws.{turns_down, accepts}
use Rattle.phy_zone.specs.PhyZone.{phy_zone_checks, phy_zone_reply}
use Rattle.zone_permission.specs.ZonePermission.{permission_reply, permission_checks, operation_checks}
use Rattle.zone_permission.specs.ZonePermission as order-words
use Rattle.zone_report.specs.ZoneReport.{report_reply, report_checks, row_count, start_row, rows}
use Rattle.zone_report.proofs.ReportLaws.{rows_most, rows_there, length-rows, report-start}
use Rattle.discover.specs.declared.Changes.{Changes}
use Rattle.rules.specs.Rules.{function_of, smp_reply}
use Rattle.rules.proofs.RuleLaws.{is_93, is_c1, is_51}
use Rattle.console_reading.specs.Reading.{among, possible, reports, start_of, count_of, head_checks, unpacked, heard, rows_then, read_out}
use Rattle.console_reading.proofs.ReadLaws as laws
use Rattle.console.specs.Promises.{Ours, AllRead, SameRows, read_at}
use Rattle.console.proofs.Rows.{rows_read}

-- ---- an accepted 51h
module _ (w : ℕ) (phys permissions : List ℕ) (phy carried : ℕ) (request : List ℕ)
    (z : first_refusal (report_checks w phys permissions phy carried request) ≡ 0) where
  abbrev Response : List ℕ
  Response = response_of 0x51 (report_reply w phys permissions phy carried request)

  abbrev Body : List ℕ
  Body = 0x41 ∷ 0x51 ∷ 0x00 ∷ (2 + 4 * row_count request) ∷ rows w permissions request

  said : Response ≡ Body
  unfolding report_reply
  said =
      let l = length-rows w permissions request in
      let d : length (rows w permissions request) / 4 ≡ 2 + 4 * row_count request = omega arith in
      rw (← accepts _ _ phys permissions (sym z), d)

  body_4 : get_or Body 4 0 ≡ 0
  unfolding rows
  body_4 = refl

  body_5 : get_or Body 5 0 ≡ 0
  unfolding rows
  body_5 = refl

  body_start : start_of Body ≡ start_row request
  unfolding rows
  body_start = refl

  body_count : count_of Body ≡ row_count request
  unfolding rows
  body_count = refl

  body_reports : reports Body ≡ true
  unfolding reports
  body_reports = refl

  body_read : 0 ≡ first_refusal (head_checks Body)
  unfolding among
  body_read =
      let s = report-start w phys permissions phy carried request (sym z) in
      let l = length-rows w permissions request in
      let m = rows_most request in
      let t = rows_there request s in
      let long : length Body ≡ 12 + 16 * row_count request = omega arith in
      let p : true ≡ possible 0x51 0 = laws.possible_51 0x51 0 true refl refl in
      laws.then_length Body true 0 (omega arith) refl p refl
      (laws.length-rows Body true 0 (sym body_reports) refl
      (first (next (omega (arith, long)) (next body_4 (next body_5 (next (omega (arith, body_start)) (next (omega (arith, body_count)) (next (omega (arith, body_start, body_count)) (next (omega (arith, body_count)) (next (omega (arith, long, body_count)) none))))))))))

  -- it is read
  pub report-heard : 0 ≡ first_refusal (head_checks Response)
  report-heard = body_read ∙ ap (λ (l : List ℕ). first_refusal (head_checks l)) (sym said)

  -- as its first group and rows
  pub report-values : heard Response ≡ 0x51 ∷ 0x00 ∷ start_row request ∷ row_count request ∷ []
  unfolding heard
  report-values = rw (said, body_reports, body_start, body_count)

  body_row : (i j : ℕ) → i < row_count request → j < 128 → P 16 (drop 12 Body) i j ≡ reaches w permissions (start_row request + i) j
  unfolding rows shown_rows shown_byte
  body_row i j hi hj =
      rows_read (reaches w permissions) (0x41 ∷ 0x51 ∷ 0x00 ∷ (2 + 4 * row_count request) ∷ 0 ∷ 0 ∷ start_row request ∷ row_count request ∷ 0 ∷ 0 ∷ 0 ∷ 0 ∷ [])
      (start_row request) (row_count request) i j refl hi hj

  -- and row by row and group by group as the table has it
  pub report-groups : (lent : List ℕ) (i j : ℕ) → i < row_count request → j < 128
      → get_or (rows_then Response lent) (128 * i + j) 0 ≡ num (reaches w permissions (start_row request + i) j)
  unfolding rows_then unpacked
  report-groups lent i j hi hj =
      let q : (128 * i + j) / 128 ≡ i = omega arith in
      let m : (128 * i + j) % 128 ≡ j = omega arith in
      let l : 128 * i + j < length (tab (unpacked Body) 0 (128 * row_count request)) = omega (arith, length-tab (unpacked Body) 0 (128 * row_count request)) in
      rw (said, body_reports, body_count)
      (get_or-append (tab (unpacked Body) 0 (128 * row_count request)) (drop (128 * row_count request) lent) 0 (128 * i + j) l
      ∙ get_or-tab (unpacked Body) 0 (128 * row_count request) (128 * i + j) (omega arith)
      ∙ rw (zero-add (128 * i + j), q, m)
      (ap num (body_row i j hi hj)))

-- ---- which results the checks of each function can answer
abbrev Numbers : List ℕ → List Check → Type 0
Numbers xs [] = Unit
Numbers xs (refuse n t ∷ cs) = (among n xs ≡ true) × Numbers xs cs

numbers_among : (xs : List ℕ) (cs : List Check) → Numbers xs cs → among 0 xs ≡ true → among (first_refusal cs) xs ≡ true
unfolding first_refusal
numbers_among xs [] k z = z
numbers_among xs (refuse n t ∷ cs) k z = go (holds t) (numbers_among xs cs k.1 z)
  where
    go : (b : Bool) → among (first_refusal cs) xs ≡ true → among (cond b n (first_refusal cs)) xs ≡ true
    go true q = k.0
    go false q = q

-- the four bytes of a response without rows
pub short_heard : (f r : ℕ) → possible f r ≡ true → (f ≡ 0x51 → r ≡ 0 → ⊥) → 0 ≡ first_refusal (head_checks (0x41 ∷ f ∷ r ∷ 0 ∷ []))
short_heard f r p n =
    laws.then_length (0x41 ∷ f ∷ r ∷ 0 ∷ []) true 0 (omega arith) refl (sym p) refl
    (laws.length_short (0x41 ∷ f ∷ r ∷ 0 ∷ []) false 0 (silent (ℕ_discrete f 0x51) (ℕ_discrete r 0)) refl (first (next refl (next refl none))))
  where
    silent : Dec (f ≡ 0x51) → Dec (r ≡ 0) → false ≡ reports (0x41 ∷ f ∷ r ∷ 0 ∷ [])
    silent (no h) d = laws.reports_not (0x41 ∷ f ∷ r ∷ 0 ∷ []) h
    silent (yes e) (no h) = sym (ne_eqb r 0 h) ∙ laws.reports_51 (0x41 ∷ f ∷ r ∷ 0 ∷ []) e
    silent (yes e) (yes q) = absurd (n e q)

replied_short : (f n : ℕ) (set ps qs phys permissions : List ℕ)
    → response_of f (replied n (record { result = 0; rest = []; set = set; phys = ps; permissions = qs }) phys permissions) ≡ 0x41 ∷ f ∷ n ∷ 0 ∷ []
unfolding replied
replied_short f zero set ps qs phys permissions = refl
replied_short f (suc n) set ps qs phys permissions = refl

module _ (w : ℕ) (phys permissions : List ℕ) (phy carried : ℕ) (request : List ℕ) where
  numbers_93 : Numbers (0x00 ∷ 0x02 ∷ 0x03 ∷ 0x10 ∷ []) (phy_zone_checks w phys permissions phy carried request)
  unfolding among
  numbers_93 = (refl, (refl, (refl, (refl, (refl, (refl, tt))))))

  numbers_c1 : Numbers (0x00 ∷ 0x01 ∷ 0x02 ∷ 0x03 ∷ 0x11 ∷ []) (permission_checks w phys permissions phy carried request)
  unfolding among operation_checks
  numbers_c1 = (refl, (refl, (refl, go (eqb (get_or request 9 0 / 16) 8) (eqb (get_or request 9 0 / 16) 9))))
    where
      go : (a b : Bool)
          → Numbers (0x00 ∷ 0x01 ∷ 0x02 ∷ 0x03 ∷ 0x11 ∷ [])
          (cond a (order-words.single_checks w request) (cond b (order-words.batch_checks w request) (refuse 0x02 (on true) ∷ [])))
      go true b = (refl, (refl, (refl, (refl, (refl, tt)))))
      go false true = (refl, (refl, (refl, (refl, tt))))
      go false false = (refl, tt)

  numbers_51 : Numbers (0x00 ∷ 0x01 ∷ 0x03 ∷ 0x11 ∷ []) (report_checks w phys permissions phy carried request)
  unfolding among
  numbers_51 = (refl, (refl, (refl, (refl, tt))))

  -- every response to 93h is read
  heard_93 : 0 ≡ first_refusal (head_checks (response_of 0x93 (phy_zone_reply w phys permissions phy carried request)))
  unfolding phy_zone_reply among
  heard_93 =
      let n : ℕ = first_refusal (phy_zone_checks w phys permissions phy carried request) in
      let p : true ≡ possible 0x93 n =
      laws.possible_93 0x93 n true refl (sym (numbers_among (0x00 ∷ 0x02 ∷ 0x03 ∷ 0x10 ∷ []) (phy_zone_checks w phys permissions phy carried request) numbers_93 refl)) in
      short_heard 0x93 n (sym p) (λ e q. omega arith)
      ∙ ap (λ (l : List ℕ). first_refusal (head_checks l)) (sym (replied_short 0x93 n _ _ _ phys permissions))

  -- every response to C1h
  heard_c1 : 0 ≡ first_refusal (head_checks (response_of 0xc1 (permission_reply w phys permissions phy carried request)))
  unfolding permission_reply among
  heard_c1 =
      let n : ℕ = first_refusal (permission_checks w phys permissions phy carried request) in
      let p : true ≡ possible 0xc1 n =
      laws.possible_c1 0xc1 n true refl (sym (numbers_among (0x00 ∷ 0x01 ∷ 0x02 ∷ 0x03 ∷ 0x11 ∷ []) (permission_checks w phys permissions phy carried request) numbers_c1 refl)) in
      short_heard 0xc1 n (sym p) (λ e q. omega arith)
      ∙ ap (λ (l : List ℕ). first_refusal (head_checks l)) (sym (replied_short 0xc1 n _ _ _ phys permissions))

  down_51 : (first_refusal (report_checks w phys permissions phy carried request) ≡ 0 → ⊥)
      → response_of 0x51 (report_reply w phys permissions phy carried request)
      ≡ 0x41 ∷ 0x51 ∷ first_refusal (report_checks w phys permissions phy carried request) ∷ 0 ∷ []
  unfolding report_reply
  down_51 h = rw (← turns_down _ _ phys permissions (first_refusal (report_checks w phys permissions phy carried request)) refl h)

  -- every response to 51h
  heard_51 : 0 ≡ first_refusal (head_checks (response_of 0x51 (report_reply w phys permissions phy carried request)))
  unfolding among
  heard_51 = go (ℕ_discrete (first_refusal (report_checks w phys permissions phy carried request)) 0)
    where
      go : Dec (first_refusal (report_checks w phys permissions phy carried request) ≡ 0)
          → 0 ≡ first_refusal (head_checks (response_of 0x51 (report_reply w phys permissions phy carried request)))
      go (yes z) = report-heard w phys permissions phy carried request z
      go (no h) =
          let p : true ≡ possible 0x51 (first_refusal (report_checks w phys permissions phy carried request)) =
          laws.possible_51 0x51 (first_refusal (report_checks w phys permissions phy carried request)) true refl
          (sym (numbers_among (0x00 ∷ 0x01 ∷ 0x03 ∷ 0x11 ∷ []) (report_checks w phys permissions phy carried request) numbers_51 refl)) in
          short_heard 0x51 (first_refusal (report_checks w phys permissions phy carried request)) (sym p) (λ e q. h q)
          ∙ ap (λ (l : List ℕ). first_refusal (head_checks l)) (sym (down_51 h))

  -- so what `smp` answers to one of the three functions is read
  every-heard : (changes : Changes) → Ours request → 0 ≡ first_refusal (head_checks (response_of (function_of request) (smp_reply w phys permissions phy carried changes request)))
  every-heard changes (inl e) =
      heard_93 ∙ ap₂ (λ (f : ℕ) (p : Reply). first_refusal (head_checks (response_of f p))) (sym e) (sym (is_93 w phys permissions phy carried changes request e))
  every-heard changes (inr (inl e)) =
      heard_c1 ∙ ap₂ (λ (f : ℕ) (p : Reply). first_refusal (head_checks (response_of f p))) (sym e) (sym (is_c1 w phys permissions phy carried changes request e))
  every-heard changes (inr (inr e)) =
      heard_51 ∙ ap₂ (λ (f : ℕ) (p : Reply). first_refusal (head_checks (response_of f p))) (sym e) (sym (is_51 w phys permissions phy carried changes request e))

-- function and result are read as they stand
heard_result : (f : ℕ) (p : Reply) → take 2 (heard (response_of f p)) ≡ f ∷ p.result ∷ []
unfolding heard reports
heard_result f p = go (eqb f 0x51 && eqb p.result 0) refl
  where
    go : (b : Bool) → (eqb f 0x51 && eqb p.result 0) ≡ b
        → take 2 (cond b (0x51 ∷ 0x00 ∷ start_of (response_of f p) ∷ count_of (response_of f p) ∷ []) (f ∷ p.result ∷ [])) ≡ f ∷ p.result ∷ []
    go true e = let q = both _ _ e in ap₂ (λ (a b : ℕ). a ∷ b ∷ []) (sym (eqb-true f 0x51 q.0)) (sym (eqb-true p.result 0 q.1))
    go false e = refl

read_whole : (bytes lent : List ℕ) → 8064 ≤ length lent → 0 ≡ first_refusal (head_checks bytes)
    → read_out bytes lent ≡ out (answer (heard bytes)) (rows_then bytes lent ∷ [])
unfolding outcome
read_whole bytes lent l e = let z = laws.then_head bytes (length lent) 0 l e in rw (← z)

pub all_read_lem : AllRead
all_read_lem w phys permissions phy carried changes request response lent l ours =
    let p : Reply = smp_reply w phys permissions phy carried changes request in
    record {
      wrote = take_at (response_of (function_of request) p) (drop (4 + length p.rest) response) (4 + length p.rest) (omega arith);
      reads = read_whole (response_of (function_of request) p) lent l (every-heard w phys permissions phy carried request changes ours);
      says = heard_result (function_of request) p;
    }

-- ---- a reply's result is what its checks answered
pub replied_result : (n : ℕ) (rest set ps qs phys permissions : List ℕ)
    → (replied n (record { result = 0; rest = rest; set = set; phys = ps; permissions = qs }) phys permissions).result ≡ n
unfolding replied
replied_result zero rest set ps qs phys permissions = refl
replied_result (suc n) rest set ps qs phys permissions = refl

accepted_51 : (w : ℕ) (phys permissions : List ℕ) (phy carried : ℕ) (changes : Changes) (request : List ℕ) → function_of request ≡ 0x51
    → (smp_reply w phys permissions phy carried changes request).result ≡ 0x00 → first_refusal (report_checks w phys permissions phy carried request) ≡ 0
unfolding report_reply
accepted_51 w phys permissions phy carried changes request e z =
    sym (replied_result (first_refusal (report_checks w phys permissions phy carried request)) _ _ _ _ phys permissions)
    ∙ sym (ap (λ (p : Reply). p.result) (is_51 w phys permissions phy carried changes request e))
    ∙ z

pub same-rows : SameRows
same-rows w phys permissions phy carried changes request lent e z =
    let a = accepted_51 w phys permissions phy carried changes request e z in
    let r = is_51 w phys permissions phy carried changes request e in
    let groups-read : (i j : ℕ) → i < row_count request → j < 128
    → read_at w phys permissions phy carried changes request lent i j ≡ num (reaches w permissions (start_row request + i) j) =
    λ i j hi hj. ap (λ (p : Reply). get_or (rows_then (response_of 0x51 p) lent) (128 * i + j) 0) r ∙ report-groups w phys permissions phy carried request a lent i j hi hj in (
      ap (λ (p : Reply). heard (response_of 0x51 p)) r ∙ report-values w phys permissions phy carried request a,
      groups-read,
      λ i j hi hj hr hg. groups-read i j hi hj ∙ ap num (sym (reach_in w permissions (start_row request + i) j _ hr hg refl)),
    )
