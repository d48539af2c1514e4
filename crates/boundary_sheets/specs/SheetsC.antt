-- What C gets of sheets: both calls' outcomes in the fields of include/shelf.h and include/small.h; the quotes are of those headers.
use Rattle.std.specs.Prelude.{true, List, [], ◌∷◌, ◌++◌, ℕ, leb, length}
use Rattle.wire.specs.Groups.{is_group}
use Rattle.permit.specs.Permission.{permissions_sized}
use Rattle.permit.specs.Orders.{apply}
use Rattle.tables.specs.Refusals.{Check, refuse, below, off, first_refusal}
use Rattle.tables.specs.Outcome.{Out, outcome}
use Rattle.tables.specs.Arrival.{arrival_checks}
use Rattle.requests.specs.Requests.{smp_source}
use Rattle.sheet_lines.specs.Line.{sheet_most}
use Rattle.imports.specs.Import.{imports, done_values, done_orders}
use Rattle.boundary_sheets.specs.declared.ImportedC.{ImportedC}
use Rattle.boundary_sheets.specs.declared.ExportedC.{ExportedC}

abbrev pub imported_fields : ImportedC → List ℕ
imported_fields r = r.refusal ∷ r.lines ∷ r.cause ∷ []

abbrev pub exported_fields : ExportedC → List ℕ
exported_fields r = r.refusal ∷ r.length ∷ []

-- "Refusals: 1, 2, 3 (sheet_len over 88,011), 7, 5 (carried: on a participating phy above 127, then over 255 on any phy)": all but the last are
-- document 02's, which has no wider number
abbrev pub import_checks_c : ℕ → List ℕ → List ℕ → ℕ → ℕ → ℕ → List Check
import_checks_c w phys permissions phy carried size =
    arrival_checks phys phy (permissions_sized w permissions) (leb size sheet_most) true
    ++ refuse 5 (off (is_group (smp_source phys phy carried)))
    ∷ refuse 5 (below 255 carried)
    ∷ []

abbrev pub import_out_c : ℕ → List ℕ → List ℕ → ℕ → ℕ → List ℕ → Out
import_out_c w phys permissions phy carried sheet =
    outcome (first_refusal (import_checks_c w phys permissions phy carried (length sheet)))
    (done_values (imports w phys permissions phy carried sheet))
    (permissions ∷ [])
    (apply w (done_orders (imports w phys permissions phy carried sheet)) permissions ∷ [])
