-- What the program `orders` answers, as a function of the sheet on its input. A sheet of orders, in the order in which they were given, goes into a fresh
-- table as from phy 0 of the bench rack, which is ready, in group 1 and not participating. Quotes are of document 02, request 07.
use Rattle.std.specs.Prelude.{cond, List, [], ◌∷◌, ◌++◌, ℕ, zero, suc, eqb, leb, length}
use Rattle.permit.specs.Permission.{start_table}
use Rattle.permit.specs.Orders.{apply}
use Rattle.rack.specs.Rack.{rack_table}
use Rattle.lines.specs.Text.{decimal}
use Rattle.sheet_lines.specs.Line.{LF, sheet_most}
use Rattle.imports.specs.Import.{Done, done, imports}
use Rattle.exports.specs.Export.{sheet_text}

-- ---- the words

-- `line `
unfoldable pub line_word : List ℕ
line_word = 108 ∷ 105 ∷ 110 ∷ 101 ∷ 32 ∷ []

-- `: `
unfoldable pub colon : List ℕ
colon = 58 ∷ 32 ∷ []

-- `expected GROUP,GROUP,1 or GROUP,GROUP,0 and the line's end`
unfoldable pub form_words : List ℕ
form_words =
    101 ∷ 120 ∷ 112 ∷ 101 ∷ 99 ∷ 116 ∷ 101 ∷ 100 ∷ 32 ∷ 71 ∷ 82 ∷ 79 ∷ 85 ∷ 80 ∷ 44 ∷ 71 ∷ 82 ∷ 79 ∷ 85 ∷ 80 ∷ 44 ∷ 49 ∷ 32 ∷ 111
    ∷ 114 ∷ 32 ∷ 71 ∷ 82 ∷ 79 ∷ 85 ∷ 80 ∷ 44 ∷ 71 ∷ 82 ∷ 79 ∷ 85 ∷ 80 ∷ 44 ∷ 48 ∷ 32 ∷ 97 ∷ 110 ∷ 100 ∷ 32 ∷ 116 ∷ 104 ∷ 101 ∷ 32
    ∷ 108 ∷ 105 ∷ 110 ∷ 101 ∷ 39 ∷ 115 ∷ 32 ∷ 101 ∷ 110 ∷ 100 ∷ []

-- `a group is not from 2 to 127`
unfoldable pub group_words : List ℕ
group_words =
    97 ∷ 32 ∷ 103 ∷ 114 ∷ 111 ∷ 117 ∷ 112 ∷ 32 ∷ 105 ∷ 115 ∷ 32 ∷ 110 ∷ 111 ∷ 116 ∷ 32 ∷ 102 ∷ 114 ∷ 111 ∷ 109 ∷ 32 ∷ 50 ∷ 32
    ∷ 116 ∷ 111 ∷ 32 ∷ 49 ∷ 50 ∷ 55 ∷ []

-- `the caller has not the right to change zoning`
unfoldable pub right_words : List ℕ
right_words =
    116 ∷ 104 ∷ 101 ∷ 32 ∷ 99 ∷ 97 ∷ 108 ∷ 108 ∷ 101 ∷ 114 ∷ 32 ∷ 104 ∷ 97 ∷ 115 ∷ 32 ∷ 110 ∷ 111 ∷ 116 ∷ 32 ∷ 116 ∷ 104 ∷ 101
    ∷ 32 ∷ 114 ∷ 105 ∷ 103 ∷ 104 ∷ 116 ∷ 32 ∷ 116 ∷ 111 ∷ 32 ∷ 99 ∷ 104 ∷ 97 ∷ 110 ∷ 103 ∷ 101 ∷ 32 ∷ 122 ∷ 111 ∷ 110 ∷ 105 ∷ 110
    ∷ 103 ∷ []

-- what is wrong with a line, by the cause of its failing: there are three
unfoldable pub cause_words : ℕ → List ℕ
cause_words cause = cond (eqb cause 1) form_words (cond (eqb cause 2) group_words right_words)

-- "stops with the line number": `line N: ` and what is wrong with it
unfoldable pub stop_text : ℕ → ℕ → List ℕ
stop_text number cause = line_word ++ decimal number ++ colon ++ cause_words cause ++ LF ∷ []

-- `a sheet has at most 88,011 bytes`
unfoldable pub too_long_words : List ℕ
too_long_words =
    97 ∷ 32 ∷ 115 ∷ 104 ∷ 101 ∷ 101 ∷ 116 ∷ 32 ∷ 104 ∷ 97 ∷ 115 ∷ 32 ∷ 97 ∷ 116 ∷ 32 ∷ 109 ∷ 111 ∷ 115 ∷ 116 ∷ 32 ∷ 56 ∷ 56 ∷ 44
    ∷ 48 ∷ 49 ∷ 49 ∷ 32 ∷ 98 ∷ 121 ∷ 116 ∷ 101 ∷ 115 ∷ []

unfoldable pub too_long_text : List ℕ
too_long_text = too_long_words ++ LF ∷ []

-- ---- the answer

-- what the orders of a sheet do
abbrev pub given : List ℕ → Done
given sheet = imports 16 rack_table (start_table 16) 0 0 sheet

-- where every line was accepted, the permitted pairs as a sheet; else the line behind the accepted ones, and why it failed
unfoldable pub text_of : Done → List ℕ
text_of (done os zero) = sheet_text 16 (apply 16 os (start_table 16))
text_of (done os (suc n)) = stop_text (suc (length os)) (suc n)

-- "sheet over 88,011 bytes": nothing of it is taken
unfoldable pub orders_text : List ℕ → List ℕ
orders_text sheet = cond (leb (length sheet) sheet_most) (text_of (given sheet)) too_long_text
