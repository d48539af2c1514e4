-- Request 07's sentences as rows of a single statement about the definitions, on the bench rack, for both shelves.
use Rattle.std.specs.Prelude.{◌≡◌, true, false, List, [], ◌∷◌, ℕ, get_or, replicate}
use Rattle.permit.specs.Permission.{P, set_both, start_table}
use Rattle.tables.specs.Outcome.{Answer, refusal, answer, Out, out}
use Rattle.rack.specs.Rack.{rack_table}
use Rattle.imports.specs.Import.{import_out}
use Rattle.exports.specs.Export.{sheet_text}

-- a sheet from a phy of the bench rack, with the permission table t
unfoldable pub sends : ℕ → List ℕ → ℕ → List ℕ → Out
sends w t phy sheet = import_out w rack_table t phy 0 sheet

-- the answer, and the table that is left
abbrev pub answer_of : Out → Answer
answer_of (out a bs) = a

abbrev pub table_of : Out → List ℕ
table_of (out a bs) = get_or bs 0 []

abbrev pub Cases : Type 0
Cases =
    -- "8,9,1" with CRLF, then "10,9,1" and "9,10,0" with LF: three lines, of which the last switches off what the second switched on
    (answer_of (sends 16 (start_table 16) 0 (56 ∷ 44 ∷ 57 ∷ 44 ∷ 49 ∷ 13 ∷ 10 ∷ 49 ∷ 48 ∷ 44 ∷ 57 ∷ 44 ∷ 49 ∷ 10 ∷ 57 ∷ 44 ∷ 49 ∷ 48 ∷ 44 ∷ 48 ∷ 10 ∷ [])) ≡ answer (3 ∷ []))
    × (P 16 (table_of (sends 16 (start_table 16) 0 (56 ∷ 44 ∷ 57 ∷ 44 ∷ 49 ∷ 13 ∷ 10 ∷ 49 ∷ 48 ∷ 44 ∷ 57 ∷ 44 ∷ 49 ∷ 10 ∷ 57 ∷ 44 ∷ 49 ∷ 48 ∷ 44 ∷ 48 ∷ 10 ∷ []))) 9 8 ≡ true)
    × (P 16 (table_of (sends 16 (start_table 16) 0 (56 ∷ 44 ∷ 57 ∷ 44 ∷ 49 ∷ 13 ∷ 10 ∷ 49 ∷ 48 ∷ 44 ∷ 57 ∷ 44 ∷ 49 ∷ 10 ∷ 57 ∷ 44 ∷ 49 ∷ 48 ∷ 44 ∷ 48 ∷ 10 ∷ []))) 10 9 ≡ false)
    -- an empty sheet has no line and is done, also from phy 2, which has not the right; with a line it is stopped at that
    × (answer_of (sends 16 (start_table 16) 2 []) ≡ answer (0 ∷ []))
    × (answer_of (sends 16 (start_table 16) 2 (56 ∷ 44 ∷ 57 ∷ 44 ∷ 49 ∷ 10 ∷ [])) ≡ answer (1 ∷ 3 ∷ []))
    -- a leading zero in line 2 is bad text: line 1 stays, line 3 is not done
    × (answer_of (sends 16 (start_table 16) 0 (56 ∷ 44 ∷ 57 ∷ 44 ∷ 49 ∷ 10 ∷ 48 ∷ 56 ∷ 44 ∷ 57 ∷ 44 ∷ 49 ∷ 10 ∷ 57 ∷ 44 ∷ 57 ∷ 44 ∷ 49 ∷ 10 ∷ [])) ≡ answer (2 ∷ 1 ∷ []))
    × (P 16 (table_of (sends 16 (start_table 16) 0 (56 ∷ 44 ∷ 57 ∷ 44 ∷ 49 ∷ 10 ∷ 48 ∷ 56 ∷ 44 ∷ 57 ∷ 44 ∷ 49 ∷ 10 ∷ 57 ∷ 44 ∷ 57 ∷ 44 ∷ 49 ∷ 10 ∷ []))) 8 9 ≡ true)
    × (P 16 (table_of (sends 16 (start_table 16) 0 (56 ∷ 44 ∷ 57 ∷ 44 ∷ 49 ∷ 10 ∷ 48 ∷ 56 ∷ 44 ∷ 57 ∷ 44 ∷ 49 ∷ 10 ∷ 57 ∷ 44 ∷ 57 ∷ 44 ∷ 49 ∷ 10 ∷ []))) 9 9 ≡ false)
    -- bad text: no line end; a CR alone, or two; an empty line; a 2 in the last field; a space; a header
    × (answer_of (sends 16 (start_table 16) 0 (56 ∷ 44 ∷ 57 ∷ 44 ∷ 49 ∷ [])) ≡ answer (1 ∷ 1 ∷ []))
    × (answer_of (sends 16 (start_table 16) 0 (56 ∷ 44 ∷ 57 ∷ 44 ∷ 49 ∷ 13 ∷ 56 ∷ 44 ∷ 57 ∷ 44 ∷ 48 ∷ 13 ∷ [])) ≡ answer (1 ∷ 1 ∷ []))
    × (answer_of (sends 16 (start_table 16) 0 (56 ∷ 44 ∷ 57 ∷ 44 ∷ 49 ∷ 13 ∷ 13 ∷ 10 ∷ [])) ≡ answer (1 ∷ 1 ∷ []))
    × (answer_of (sends 16 (start_table 16) 0 (10 ∷ [])) ≡ answer (1 ∷ 1 ∷ []))
    × (answer_of (sends 16 (start_table 16) 0 (56 ∷ 44 ∷ 57 ∷ 44 ∷ 50 ∷ 10 ∷ [])) ≡ answer (1 ∷ 1 ∷ []))
    × (answer_of (sends 16 (start_table 16) 0 (56 ∷ 44 ∷ 32 ∷ 57 ∷ 44 ∷ 49 ∷ 10 ∷ [])) ≡ answer (1 ∷ 1 ∷ []))
    × (answer_of (sends 16 (start_table 16) 0 (103 ∷ 114 ∷ 111 ∷ 117 ∷ 112 ∷ 44 ∷ 103 ∷ 114 ∷ 111 ∷ 117 ∷ 112 ∷ 44 ∷ 111 ∷ 110 ∷ 10 ∷ [])) ≡ answer (1 ∷ 1 ∷ []))
    -- no such group: 264, which is 256 + 8; thirty nines; 1; 0; 128
    × (answer_of (sends 16 (start_table 16) 0 (50 ∷ 54 ∷ 52 ∷ 44 ∷ 57 ∷ 44 ∷ 49 ∷ 10 ∷ [])) ≡ answer (1 ∷ 2 ∷ []))
    × (answer_of (sends 16 (start_table 16) 0 (57 ∷ 57 ∷ 57 ∷ 57 ∷ 57 ∷ 57 ∷ 57 ∷ 57 ∷ 57 ∷ 57 ∷ 57 ∷ 57 ∷ 57 ∷ 57 ∷ 57 ∷ 57 ∷ 57 ∷ 57 ∷ 57 ∷ 57 ∷ 57 ∷ 57 ∷ 57 ∷ 57 ∷ 57 ∷ 57 ∷ 57 ∷ 57 ∷ 57 ∷ 57 ∷ 44 ∷ 57 ∷ 44 ∷ 49 ∷ 10 ∷ [])) ≡ answer (1 ∷ 2 ∷ []))
    × (answer_of (sends 16 (start_table 16) 0 (56 ∷ 44 ∷ 49 ∷ 44 ∷ 49 ∷ 10 ∷ [])) ≡ answer (1 ∷ 2 ∷ []))
    × (answer_of (sends 16 (start_table 16) 0 (48 ∷ 44 ∷ 57 ∷ 44 ∷ 49 ∷ 10 ∷ [])) ≡ answer (1 ∷ 2 ∷ []))
    × (answer_of (sends 16 (start_table 16) 0 (56 ∷ 44 ∷ 49 ∷ 50 ∷ 56 ∷ 44 ∷ 48 ∷ 10 ∷ [])) ≡ answer (1 ∷ 2 ∷ []))
    -- from phy 2, where group 8 reaches group 2 and so has the right: it takes the right from itself by line 2, and line 3 is stopped
    × (answer_of (sends 16 (set_both 16 (start_table 16) 8 2 true) 2 (56 ∷ 44 ∷ 57 ∷ 44 ∷ 49 ∷ 10 ∷ 50 ∷ 44 ∷ 56 ∷ 44 ∷ 48 ∷ 10 ∷ 56 ∷ 44 ∷ 57 ∷ 44 ∷ 48 ∷ 10 ∷ [])) ≡ answer (3 ∷ 3 ∷ []))
    × (P 16 (table_of (sends 16 (set_both 16 (start_table 16) 8 2 true) 2 (56 ∷ 44 ∷ 57 ∷ 44 ∷ 49 ∷ 10 ∷ 50 ∷ 44 ∷ 56 ∷ 44 ∷ 48 ∷ 10 ∷ 56 ∷ 44 ∷ 57 ∷ 44 ∷ 48 ∷ 10 ∷ []))) 8 9 ≡ true)
    -- a sheet over 88,011 bytes is refused, whatever it holds
    × (answer_of (sends 16 (start_table 16) 0 (replicate 88012 48)) ≡ refusal 3)
    -- export: nothing at start-up; a pair ordered the other way round, and a group with itself
    × (sheet_text 16 (start_table 16) ≡ [])
    × (sheet_text 16 (table_of (sends 16 (start_table 16) 0 (49 ∷ 50 ∷ 55 ∷ 44 ∷ 56 ∷ 44 ∷ 49 ∷ 10 ∷ 56 ∷ 44 ∷ 56 ∷ 44 ∷ 49 ∷ 10 ∷ []))) ≡ 56 ∷ 44 ∷ 56 ∷ 44 ∷ 49 ∷ 13 ∷ 10 ∷ 56 ∷ 44 ∷ 49 ∷ 50 ∷ 55 ∷ 44 ∷ 49 ∷ 13 ∷ 10 ∷ [])
    -- the small shelf: 7 is a group, 8 is none
    × (answer_of (sends 1 (start_table 1) 0 (55 ∷ 44 ∷ 50 ∷ 44 ∷ 49 ∷ 13 ∷ 10 ∷ [])) ≡ answer (1 ∷ []))
    × (answer_of (sends 1 (start_table 1) 0 (55 ∷ 44 ∷ 56 ∷ 44 ∷ 49 ∷ 13 ∷ 10 ∷ [])) ≡ answer (1 ∷ 2 ∷ []))
    × (sheet_text 1 (table_of (sends 1 (start_table 1) 0 (55 ∷ 44 ∷ 50 ∷ 44 ∷ 49 ∷ 10 ∷ []))) ≡ 50 ∷ 44 ∷ 55 ∷ 44 ∷ 49 ∷ 13 ∷ 10 ∷ [])
