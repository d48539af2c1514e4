-- An import from C gives what its equation says, the numbers taken as they came.
-- Assumes nothing.
use mathlib.Core.Path.{◌≡◌, sym, ap, ◌∙◌}
use mathlib.Core.Bool.{true}
use mathlib.Core.List.{List, [], ◌∷◌}
use Prim.Native.Nat.{ℕ, min, ◌≤◌, ◌<◌}
use native.Mathlib.Omega.{arith}
use lib.Dec.{leb}
use lib.ListN.{length}
use Rattle.std.proofs.Common.{Result, Err}
use Rattle.std.specs.Bool.{⊤}
use Rattle.std.specs.Result.{result_and}
use Rattle.wire.specs.Groups.{is_group}
use Rattle.permit.specs.Permission.{permissions_sized}
use Rattle.permit.specs.Orders.{apply}
use Rattle.tables.specs.Refusals.{Check, refuse, below, off, first_refusal}
use Rattle.tables.specs.Numbers.{refused}
use Rattle.tables.specs.declared.refusal.Refusal.{Refusal}
use Rattle.tables.specs.declared.refusal.Refusal.TheVariants.{WrongField}
use Rattle.tables.specs.Outcome.{Answer, refusal, out, outcome}
use Rattle.tables.specs.Arrival.{arrival_checks}
use Rattle.tables.proofs.RefusalLaws.{skipped}
use Rattle.requests.specs.Requests.{smp_source}
use Rattle.sheet_lines.specs.Line.{sheet_most}
use Rattle.imports.specs.Import.{import_checks, imports, imported_values, imported_as, done_values, done_orders, import_out}
use Rattle.imports.specs.declared.Imported.{Imported}
use Rattle.boundary.specs.C.{given, fields, in_c, or_else}
use Rattle.boundary.proofs.Crossing.{crosses, turned_down, stopped, as_follows, behind, clamped}
use Rattle.boundary.proofs.CLaws.{arrival_far}
use Rattle.boundary_sheets.specs.SheetsC.{import_out_c}
use Rattle.boundary_sheets.specs.Promises.{AsDocument02, NoCarriedByte}

-- the rows that import shares with every call that has an arriving phy
abbrev shared : ℕ → List ℕ → List ℕ → ℕ → List ℕ → List Check
shared w phys permissions phy sheet = arrival_checks phys phy (permissions_sized w permissions) (leb (length sheet) sheet_most) true

pub as_document_02 : AsDocument02
as_document_02 w phys permissions phy carried sheet h =
    ap (λ (m : ℕ). outcome m (done_values (imports w phys permissions phy carried sheet)) (permissions ∷ [])
    (apply w (done_orders (imports w phys permissions phy carried sheet)) permissions ∷ []))
    (behind (shared w phys permissions phy sheet) (refuse 5 (off (is_group (smp_source phys phy carried))) ∷ [])
    (refuse 5 (off (is_group (smp_source phys phy carried))) ∷ refuse 5 (below 255 carried) ∷ [])
    (behind (refuse 5 (off (is_group (smp_source phys phy carried))) ∷ []) [] (refuse 5 (below 255 carried) ∷ []) (sym (skipped 5 (below 255 carried) [] h))))

pub no_carried_byte : NoCarriedByte
unfolding arrival_checks
no_carried_byte w phys permissions phy carried byte sheet h =
    stopped (import_checks w phys permissions phy carried (length sheet)) 4 (below 255 carried) [] tt (λ k. h) _ _ _
    ∙ ap (λ (m : ℕ). out (refusal m) (permissions ∷ []))
    (as_follows (shared w phys permissions phy sheet) 4 (off (is_group (smp_source phys phy carried))) (off (is_group (smp_source phys phy byte))))

-- ---- the call
module _ (w : ℕ) (phys permissions : List ℕ) (carried : ℕ) (sheet : List ℕ) where
  import_far : (x y : ℕ) → 255 ≤ x → 255 ≤ y → import_out_c w phys permissions x carried sheet ≡ import_out_c w phys permissions y carried sheet
  import_far x y hx hy =
      let far = arrival_far phys (permissions_sized w permissions) (leb (length sheet) sheet_most) true in
      far x hx _ _ _ _ ∙ sym (far y hy _ _ _ _)

  module _ (phy p : ℕ) (ep : p ≡ min phy 255) where
    -- a carried number that is no byte: r is what the checks answer, and a the refusal behind them
    pub import_wide : (r : Result ⊤ Refusal) (a : Result Imported Refusal) (fs : List ℕ) → 255 < carried
        → refused r ≡ first_refusal (import_checks w phys permissions p 255 (length sheet)) → a ≡ result_and r (Err WrongField)
        → fs ≡ fields 2 (imported_as a) → given fs (permissions ∷ []) ≡ in_c 2 (import_out_c w phys permissions phy carried sheet)
    import_wide r a fs h er ea e =
        crosses 2 fs (imported_as a) (permissions ∷ []) _ e
        (ap (λ (q : Answer). out q (permissions ∷ [])) (turned_down imported_values r WrongField a ea ∙ ap (λ (m : ℕ). refusal (or_else m 5)) er)
        ∙ sym (no_carried_byte w phys permissions p carried 255 sheet h)
        ∙ clamped (λ (x : ℕ). import_out_c w phys permissions x carried sheet) import_far p phy ep)

    -- and one that is
    pub import_fits : (x : ℕ) (fs : List ℕ) (a : Answer) (bs : List (List ℕ)) → carried ≤ 255 → x ≡ min carried 255
        → out a bs ≡ import_out w phys permissions p x sheet → fs ≡ fields 2 a → given fs bs ≡ in_c 2 (import_out_c w phys permissions phy carried sheet)
    import_fits x fs a bs h ex q e =
        let same : x ≡ carried = omega arith in
        crosses 2 fs a bs _ e
        (q
        ∙ ap (λ (c : ℕ). import_out w phys permissions p c sheet) same
        ∙ as_document_02 w phys permissions p carried sheet h
        ∙ clamped (λ (y : ℕ). import_out_c w phys permissions y carried sheet) import_far p phy ep)
