-- Document 02, request 07: "Import gives each line as a single order without UPDATE COMPLETE for a named phy and carried group, and stops with the
-- line number at the first that fails; earlier lines stay and count as orders for demand 3." Said over the row width w.
use Rattle.std.specs.Prelude.{true, cond, List, [], ◌∷◌, ◌++◌, ℕ, zero, suc, eqb, leb, length, Option, Result}
use Rattle.wire.specs.declared.ZoneGroup.{ZoneGroup}
use Rattle.wire.specs.Groups.{is_group}
use Rattle.permit.specs.Permission.{groups, permissions_sized, set_both}
use Rattle.permit.specs.Orders.{Order, order, apply}
use Rattle.tables.specs.Refusals.{Check, refuse, below, at_most, off, first_refusal}
use Rattle.tables.specs.Outcome.{Answer, Out, outcome}
use Rattle.tables.specs.Numbers.{answered}
use Rattle.tables.specs.declared.refusal.Refusal.{Refusal}
use Rattle.tables.specs.Arrival.{arrival_checks}
use Rattle.requests.specs.Requests.{smp_source, source_reaches}
use Rattle.sheet_lines.specs.Line.{sheet_most, Line, line, bad, line_of}
use Rattle.imports.specs.declared.Imported.{Imported}
use Rattle.imports.specs.declared.Imported.TheVariants.{Stopped, Whole}
use Rattle.imports.specs.Causes.{number}

-- "Refusals, in order: import 1, 2, 3 (sheet over 88,011 bytes), 7, 5 (carried group)"
abbrev pub import_checks : ℕ → List ℕ → List ℕ → ℕ → ℕ → ℕ → List Check
import_checks w phys permissions phy carried size =
    arrival_checks phys phy (permissions_sized w permissions) (leb size sheet_most) true
    ++ refuse 5 (off (is_group (smp_source phys phy carried)))
    ∷ []

-- "a group below 2 or above 127": cause 2
abbrev pub group_checks : ℕ → ℕ → ℕ → List Check
group_checks w a b =
    refuse 2 (below a 2)
    ∷ refuse 2 (at_most (groups w) a)
    ∷ refuse 2 (below b 2)
    ∷ refuse 2 (at_most (groups w) b)
    ∷ []

-- "then by line text that isn't such a line or has no line end, a group below 2 or above 127, caller without the right": causes 1, 2 and 3. Of a
-- line, the source group, who has the right "exactly if P(source group, 2) is on", and the table as it stands there:
abbrev pub order_checks : ℕ → Option ZoneGroup → List ℕ → ℕ → ℕ → List Check
order_checks w source t a b = group_checks w a b ++ refuse 3 (off (source_reaches w t source 2)) ∷ []

-- what an import does: the orders that it accepted, first to last, and the cause by which it stopped, 0 where the sheet was read to its end
pub data Done : Type 0 where
  done : List Order → ℕ → Done

-- an order whose checks answer a cause: carried out at 0, before what the lines behind it do, else the stop
unfoldable pub unless_stopped : ℕ → Order → Done → Done
unless_stopped zero o (done os cause) = done (o ∷ os) cause
unless_stopped (suc n) o d = done [] (suc n)

-- a line, where `behind` is what the lines behind it do to a table
unfoldable pub obeyed : ℕ → Option ZoneGroup → List ℕ → Line → (List ℕ → List ℕ → Done) → Done
obeyed w source t bad behind = done [] 1
obeyed w source t (line a b v rest) behind =
    unless_stopped (first_refusal (order_checks w source t a b)) (order a b v) (behind (set_both w t a b v) rest)

-- "The sheet is read line by line": at most so many lines of the text. A line has bytes, so as many as there are bytes is all.
unfoldable pub import_lines : ℕ → Option ZoneGroup → ℕ → List ℕ → List ℕ → Done
import_lines w source zero t s = done [] 0
import_lines w source (suc most) t [] = done [] 0
import_lines w source (suc most) t (c ∷ s) =
    obeyed w source t (line_of (c ∷ s)) (import_lines w source most)

abbrev pub imports : ℕ → List ℕ → List ℕ → ℕ → ℕ → List ℕ → Done
imports w phys permissions phy carried sheet = import_lines w (smp_source phys phy carried) (length sheet) permissions sheet

abbrev pub done_orders : Done → List Order
done_orders (done os cause) = os

-- "stops with the line number": the line that failed, from 1, and the cause; or how many lines there were
abbrev pub done_values : Done → List ℕ
done_values (done os zero) = length os ∷ []
done_values (done os (suc n)) = suc (length os) ∷ suc n ∷ []

-- the answer in these numbers
abbrev pub imported_values : Imported → List ℕ
imported_values (Stopped n cause) = n ∷ number cause ∷ []
imported_values (Whole lines) = lines ∷ []

abbrev pub imported_as : Result Imported Refusal → Answer
imported_as = answered imported_values

abbrev pub import_out : ℕ → List ℕ → List ℕ → ℕ → ℕ → List ℕ → Out
import_out w phys permissions phy carried sheet =
    outcome (first_refusal (import_checks w phys permissions phy carried (length sheet)))
    (done_values (imports w phys permissions phy carried sheet))
    (permissions ∷ [])
    (apply w (done_orders (imports w phys permissions phy carried sheet)) permissions ∷ [])

-- the orders that an import's call accepted, for demand 3: those of its lines, up to the first that failed
unfoldable pub import_orders : ℕ → List ℕ → List ℕ → ℕ → ℕ → List ℕ → List Order
import_orders w phys permissions phy carried sheet =
    cond (eqb (first_refusal (import_checks w phys permissions phy carried (length sheet))) 0)
    (done_orders (imports w phys permissions phy carried sheet))
    []
