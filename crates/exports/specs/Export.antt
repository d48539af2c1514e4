-- Document 02, request 07: "Export writes a line a,b,1 for every a <= b from 2 to 127 with P(a,b) on, ascending, CRLF." Said over the row width w:
-- the small shelf's groups end at 7.
use Rattle.std.specs.Prelude.{true, cond, List, [], ◌∷◌, ◌++◌, ℕ, ◌-◌, length, drop, Result}
use Rattle.wire.specs.Runs.{texts}
use Rattle.permit.specs.Permission.{groups, permissions_sized, P}
use Rattle.tables.specs.Refusals.{Check, refuse, below, off, first_refusal}
use Rattle.tables.specs.Outcome.{Answer, Out, outcome}
use Rattle.tables.specs.Numbers.{answered}
use Rattle.tables.specs.declared.refusal.Refusal.{Refusal}
use Rattle.sheet_lines.specs.Line.{CR, LF, sheet_most, line_text}

-- "a line a,b,1 .. with P(a,b) on .. CRLF"
unfoldable pub pair_text : ℕ → List ℕ → ℕ → ℕ → List ℕ
pair_text w t a b = cond (P w t a b) (line_text a b true (CR ∷ LF ∷ [])) []

-- group a with every b from a on
unfoldable pub row_text : ℕ → List ℕ → ℕ → List ℕ
row_text w t a = texts (pair_text w t a) a (groups w - a)

-- "for every a <= b from 2 to 127"
unfoldable pub sheet_text : ℕ → List ℕ → List ℕ
sheet_text w t = texts (row_text w t) 2 (groups w - 2)

-- "export 1, 3 (room under 88,011)"
abbrev pub export_checks : ℕ → List ℕ → ℕ → List Check
export_checks w permissions room =
    refuse 1 (off (permissions_sized w permissions))
    ∷ refuse 3 (below room sheet_most)
    ∷ []

-- the answer in these numbers: how many bytes were written
abbrev pub exported_as : Result ℕ Refusal → Answer
exported_as = answered (λ n. n ∷ [])

abbrev pub export_out : ℕ → List ℕ → List ℕ → Out
export_out w permissions sheet =
    outcome (first_refusal (export_checks w permissions (length sheet)))
    (length (sheet_text w permissions) ∷ [])
    (sheet ∷ [])
    ((sheet_text w permissions ++ drop (length (sheet_text w permissions)) sheet) ∷ [])
