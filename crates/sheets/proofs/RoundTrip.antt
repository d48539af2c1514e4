-- A sheet that export wrote, imported into a fresh table, gives the table back.
-- Assumes nothing.
use mathlib.Core.Path.{◌≡◌, refl, sym, ap, ◌∙◌}
use mathlib.Core.Bool.{Bool, true, not}
use mathlib.Core.List.{List, [], ◌∷◌, ◌++◌}
use mathlib.Core.Logic.{inl}
use Prim.Native.Nat.{ℕ, zero, suc, ◌≤◌, ◌<◌}
use native.Mathlib.Omega.{arith}
use borrow.Author.Tests.{le-leb, eq-eqb}
use lib.ListN.{length, get_or, take, length-append}
use Rattle.wire.specs.Groups.{is_group}
use Rattle.permit.specs.Permission.{table_size, P, set_both, start_table, Width}
use Rattle.permit.specs.Orders.{Order, order}
use Rattle.permit.specs.History.{Zone, Says}
use Rattle.permit.proofs.Laws.{P_both, P-start, length-set_both, length-start}
use Rattle.permit.proofs.HistoryLaws.{names_low}
use Rattle.permit.proofs.ReachLaws.{reach_in}
use Rattle.tables.specs.Refusals.{first_refusal}
use Rattle.tables.specs.Outcome.{answer, out, outcome}
use Rattle.tables.specs.Arrival.{arrival_checks}
use Rattle.tables.proofs.RefusalLaws.{first, next, none}
use Rattle.requests.specs.Requests.{smp_source, source_reaches}
use Rattle.sheet_lines.specs.Line.{CR, LF, line_text, crlf, Line, line, line_of}
use Rattle.sheet_lines.proofs.ReadBack.{line-back}
use Rattle.imports.specs.Import.{import_checks, order_checks, Done, done, unless_stopped, obeyed, import_lines, imports, import_out, import_orders}
use Rattle.exports.specs.Export.{sheet_text}
use Rattle.exports.proofs.ExportLaws.{line-length, sheet_length}
use Rattle.sheets.specs.Promises.{Caller, GivenBack}
use Rattle.sheets.proofs.Listed.{text_of, sheet_on, text_sheet, Listed, listed, made}

-- ---- a line's text has at least a byte for each order
long_enough : (os : List Order) → length os ≤ length (text_of os)
unfolding text_of
long_enough [] = omega arith
long_enough (order a b v ∷ os) =
    omega (arith, long_enough os, length-append (line_text a b true (CR ∷ LF ∷ [])) (text_of os), line-length a b)

module _ (w : ℕ) (phys : List ℕ) (phy carried : ℕ) where
  -- ---- the lines one by one
  lines_none : (t : List ℕ) (most : ℕ) → import_lines w (smp_source phys phy carried) most t [] ≡ done [] 0
  unfolding import_lines
  lines_none t zero = refl
  lines_none t (suc most) = refl

  -- a text that starts with a line is not empty
  lines_first : (most : ℕ) (t s rest : List ℕ) (a b : ℕ) (v : Bool) → 1 ≤ length s → line_of s ≡ line a b v rest
      → import_lines w (smp_source phys phy carried) (suc most) t s ≡ obeyed w (smp_source phys phy carried) t (line a b v rest) (import_lines w (smp_source phys phy carried) most)
  unfolding import_lines
  lines_first most t [] rest a b v l e = absurd (omega arith)
  lines_first most t (c ∷ s) rest a b v l e = ap (λ (l : Line). obeyed w (smp_source phys phy carried) t l (import_lines w (smp_source phys phy carried) most)) e

  -- a line without a cause to fail is carried out, before those behind it
  accepted : (t : List ℕ) (a b : ℕ) (rest : List ℕ) (behind : List ℕ → List ℕ → Done) (os : List Order)
      → first_refusal (order_checks w (smp_source phys phy carried) t a b) ≡ 0 → behind (set_both w t a b true) rest ≡ done os 0
      → obeyed w (smp_source phys phy carried) t (line a b true rest) behind ≡ done (order a b true ∷ os) 0
  unfolding obeyed unless_stopped
  accepted t a b rest behind os z e = rw (z, e)

  -- ---- a ready phy in group 1 that is not participating
  module _ (wide : Width w) (who : Caller phys phy) where
    -- has a group
    grouped : is_group (smp_source phys phy carried) ≡ true
    unfolding smp_source
    grouped = rw who.alone

    -- so its call is not refused
    not_refused : (size : ℕ) → size ≤ 88011 → first_refusal (import_checks w phys (start_table w) phy carried size) ≡ 0
    unfolding arrival_checks
    not_refused size h =
        let k = eq-eqb (length (start_table w)) (table_size w) (length-start w) in
        let l = le-leb size 88011 h in
        sym (first (next (ap not who.sized) (next (ap not k) (next who.there (next (ap not l) (next (ap not who.is_ready) (next (ap not grouped) none)))))))

    -- and it has the right as long as group 1 reaches group 2
    speaks : (t : List ℕ) → source_reaches w t (smp_source phys phy carried) 2 ≡ P w t 1 2
    unfolding smp_source
    speaks t = rw (who.alone, who.first) (let h = wide.some in sym (reach_in w t 1 2 (P w t 1 2) (omega arith) (omega arith) refl))

    -- so no line that names two such groups has a cause to fail
    no_cause : (t : List ℕ) (a b : ℕ) → Zone w a → Zone w b → P w t 1 2 ≡ true → first_refusal (order_checks w (smp_source phys phy carried) t a b) ≡ 0
    no_cause t a b za zb e =
        sym (first (next za.0 (next za.1 (next zb.0 (next zb.1 (next (ap not (speaks t ∙ e)) none))))))

    -- which an order leaves
    right_kept : (t : List ℕ) (a b : ℕ) → Zone w a → Zone w b → length t ≡ table_size w → P w t 1 2 ≡ true → P w (set_both w t a b true) 1 2 ≡ true
    right_kept t a b za zb l e =
        let h = wide.some in
        P_both w t a b 1 2 true l za.1 zb.1 (omega arith) ∙ rw (names_low w a b 1 2 za zb (inl (omega arith))) e

    -- ---- every line that a sheet lists is accepted
    all_accepted : (u : List ℕ) (os : List Order) → Listed w u os → (most : ℕ) → length os ≤ most → (t : List ℕ) → length t ≡ table_size w → P w t 1 2 ≡ true
        → import_lines w (smp_source phys phy carried) most t (text_of os) ≡ done os 0
    unfolding text_of
    all_accepted u [] h most l t lt e = lines_none t most
    all_accepted u (order a b v ∷ os) h zero l t lt e = absurd (omega arith)
    all_accepted u (order a b v ∷ os) h (suc most) l t lt e =
        let za = h.0.2.0 in
        let zb = h.0.2.1 in
        lines_first most t (line_text a b true (CR ∷ LF ∷ []) ++ text_of os) (text_of os) a b true
        (omega (arith, length-append (line_text a b true (CR ∷ LF ∷ [])) (text_of os), line-length a b))
        (line-back a b true (CR ∷ LF ∷ []) (text_of os) crlf)
        ∙ accepted t a b (text_of os) (import_lines w (smp_source phys phy carried) most) os (no_cause t a b za zb e)
        (all_accepted u os h.1 most (omega arith) (set_both w t a b true) (length-set_both w t a b true ∙ lt) (right_kept t a b za zb lt e))
        ∙ ap (λ (x : Bool). done (order a b x ∷ os) 0) (sym h.0.1)

    -- so a fresh table's import carries out the orders that the sheet lists
    all_done : (t : List ℕ) → imports w phys (start_table w) phy carried (sheet_text w t) ≡ done (sheet_on w t) 0
    all_done t =
        let h = wide.some in
        ap (λ (s : List ℕ). import_lines w (smp_source phys phy carried) (length s) (start_table w) s) (text_sheet w t)
        ∙ all_accepted t (sheet_on w t) (listed w t h) (length (text_of (sheet_on w t))) (long_enough (sheet_on w t))
        (start_table w) (length-start w) (P-start w 1 2 (omega arith) (omega arith))

-- and they make the table that was exported
text_given-back : (w : ℕ) (t : List ℕ) (os : List Order) → Width w → length t ≡ table_size w → ((i : ℕ) → get_or t i 0 < 256) → Says w t os
    → (phys : List ℕ) (phy carried : ℕ) → Caller phys phy
    → import_out w phys (start_table w) phy carried (sheet_text w t)
    ≡ out (answer (length (import_orders w phys (start_table w) phy carried (sheet_text w t)) ∷ [])) (t ∷ [])
unfolding outcome import_orders
text_given-back w t os wide hl hb says phys phy carried who =
    let z = not_refused w phys phy carried wide who (length (sheet_text w t)) (sheet_length w t wide.some wide.most) in
    let d = all_done w phys phy carried wide who t in
    rw (z, d) (ap (λ (u : List ℕ). out (answer (length (sheet_on w t) ∷ [])) (u ∷ [])) (made w t os wide.some says hl hb))

-- ---- what an export that is not refused wrote
front : (x y : List ℕ) → take (length x) (x ++ y) ≡ x
front [] y = refl
front (c ∷ x) y = ap (λ (l : List ℕ). c ∷ l) (front x y)

exported : (m : ℕ) (x y old sheet : List ℕ) (n : ℕ) → outcome m (length x ∷ []) (old ∷ []) ((x ++ y) ∷ []) ≡ out (answer (n ∷ [])) (sheet ∷ []) → take n sheet ≡ x
unfolding outcome
exported zero x y old sheet n e =
    let k : n ≡ length x = cc in
    let s : sheet ≡ x ++ y = cc in
    ap (λ (m : ℕ). take m sheet) k ∙ ap (take (length x)) s ∙ front x y
exported (suc m) x y old sheet n e = let z : ◌≡◌ {A = ℕ} 0 1 = cc in absurd (omega arith)

pub given_back : GivenBack
given_back w t os wide hl hb says room sheet n e phys phy carried who =
    rw (exported _ (sheet_text w t) _ room sheet n e) (text_given-back w t os wide hl hb says phys phy carried who)
