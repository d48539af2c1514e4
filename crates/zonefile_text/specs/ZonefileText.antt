-- What the program `zonefile` answers, as a function of the word that it is given and of its input. Quotes are of document 02, request 08.
use Rattle.std.specs.Prelude.{Bool, true, false, cond, List, [], ◌∷◌, ◌≡◌, ℕ, zero, suc, ◌≤◌, eqb, leb, length}
use Rattle.permit.specs.Permission.{start_table}
use Rattle.permit.specs.Orders.{apply}
use Rattle.tables.specs.Refusals.{first_refusal}
use Rattle.lines.specs.Written.{Wrote}
use Rattle.sheet_lines.specs.Line.{sheet_most}
use Rattle.imports.specs.Import.{Done, done}
use Rattle.exports.specs.Export.{sheet_text}
use Rattle.file_pairs.specs.Pairs.{loaded}
use Rattle.file_trailer.specs.Trailer.{pairs_in}
use Rattle.file_trailer.specs.Answers.{file_room}
use Rattle.version_1.specs.Version1.{file_of, load_checks}
use Rattle.orders_text.specs.OrdersText.{stop_text, too_long_text, given}
use Rattle.warden_words.specs.Words.{same}
use Rattle.zonefile_text.specs.declared.Text.{Text}
use Rattle.zonefile_text.specs.declared.Text.TheVariants.{Output, Errors}

-- ---- the words

-- `save`, of a sheet, and `load`, of a file
unfoldable pub save_word : List ℕ
save_word = 115 ∷ 97 ∷ 118 ∷ 101 ∷ []

unfoldable pub load_word : List ℕ
load_word = 108 ∷ 111 ∷ 97 ∷ 100 ∷ []

-- `usage: zonefile save <sheet >file, or zonefile load <file >sheet`, a line
unfoldable pub usage_text : List ℕ
usage_text =
    117 ∷ 115 ∷ 97 ∷ 103 ∷ 101 ∷ 58 ∷ 32 ∷ 122 ∷ 111 ∷ 110 ∷ 101 ∷ 102 ∷ 105 ∷ 108 ∷ 101 ∷ 32 ∷ 115 ∷ 97 ∷ 118 ∷ 101 ∷ 32 ∷ 60 ∷ 115 ∷ 104 ∷ 101 ∷ 101 ∷ 116 ∷ 32 ∷ 62 ∷ 102 ∷ 105 ∷ 108 ∷ 101 ∷ 44 ∷ 32 ∷ 111 ∷ 114 ∷ 32 ∷ 122 ∷ 111 ∷ 110 ∷ 101 ∷ 102 ∷ 105 ∷ 108 ∷ 101 ∷ 32 ∷ 108 ∷ 111 ∷ 97 ∷ 100 ∷ 32 ∷ 60 ∷ 102 ∷ 105 ∷ 108 ∷ 101 ∷ 32 ∷ 62 ∷ 115 ∷ 104 ∷ 101 ∷ 101 ∷ 116 ∷ 10 ∷ []

-- `a file has at most 16,400 bytes, and one of version 1 at most 16,014`, a line
unfoldable pub long_file_text : List ℕ
long_file_text =
    97 ∷ 32 ∷ 102 ∷ 105 ∷ 108 ∷ 101 ∷ 32 ∷ 104 ∷ 97 ∷ 115 ∷ 32 ∷ 97 ∷ 116 ∷ 32 ∷ 109 ∷ 111 ∷ 115 ∷ 116 ∷ 32 ∷ 49 ∷ 54 ∷ 44 ∷ 52 ∷ 48 ∷ 48 ∷ 32 ∷ 98 ∷ 121 ∷ 116 ∷ 101 ∷ 115 ∷ 44 ∷ 32 ∷ 97 ∷ 110 ∷ 100 ∷ 32 ∷ 111 ∷ 110 ∷ 101 ∷ 32 ∷ 111 ∷ 102 ∷ 32 ∷ 118 ∷ 101 ∷ 114 ∷ 115 ∷ 105 ∷ 111 ∷ 110 ∷ 32 ∷ 49 ∷ 32 ∷ 97 ∷ 116 ∷ 32 ∷ 109 ∷ 111 ∷ 115 ∷ 116 ∷ 32 ∷ 49 ∷ 54 ∷ 44 ∷ 48 ∷ 49 ∷ 52 ∷ 10 ∷ []

-- 31: `a file has at least 12 bytes`, a line
unfoldable pub short_file_text : List ℕ
short_file_text =
    97 ∷ 32 ∷ 102 ∷ 105 ∷ 108 ∷ 101 ∷ 32 ∷ 104 ∷ 97 ∷ 115 ∷ 32 ∷ 97 ∷ 116 ∷ 32 ∷ 108 ∷ 101 ∷ 97 ∷ 115 ∷ 116 ∷ 32 ∷ 49 ∷ 50 ∷ 32 ∷ 98 ∷ 121 ∷ 116 ∷ 101 ∷ 115 ∷ 10 ∷ []

-- 32: `this is a file of version 2, and only one of version 1 can be a sheet`, a line
unfoldable pub version2_text : List ℕ
version2_text =
    116 ∷ 104 ∷ 105 ∷ 115 ∷ 32 ∷ 105 ∷ 115 ∷ 32 ∷ 97 ∷ 32 ∷ 102 ∷ 105 ∷ 108 ∷ 101 ∷ 32 ∷ 111 ∷ 102 ∷ 32 ∷ 118 ∷ 101 ∷ 114 ∷ 115 ∷ 105 ∷ 111 ∷ 110 ∷ 32 ∷ 50 ∷ 44 ∷ 32 ∷ 97 ∷ 110 ∷ 100 ∷ 32 ∷ 111 ∷ 110 ∷ 108 ∷ 121 ∷ 32 ∷ 111 ∷ 110 ∷ 101 ∷ 32 ∷ 111 ∷ 102 ∷ 32 ∷ 118 ∷ 101 ∷ 114 ∷ 115 ∷ 105 ∷ 111 ∷ 110 ∷ 32 ∷ 49 ∷ 32 ∷ 99 ∷ 97 ∷ 110 ∷ 32 ∷ 98 ∷ 101 ∷ 32 ∷ 97 ∷ 32 ∷ 115 ∷ 104 ∷ 101 ∷ 101 ∷ 116 ∷ 10 ∷ []

-- 33: `the file is of a version that is neither 1 nor 2`, a line
unfoldable pub version_text : List ℕ
version_text =
    116 ∷ 104 ∷ 101 ∷ 32 ∷ 102 ∷ 105 ∷ 108 ∷ 101 ∷ 32 ∷ 105 ∷ 115 ∷ 32 ∷ 111 ∷ 102 ∷ 32 ∷ 97 ∷ 32 ∷ 118 ∷ 101 ∷ 114 ∷ 115 ∷ 105 ∷ 111 ∷ 110 ∷ 32 ∷ 116 ∷ 104 ∷ 97 ∷ 116 ∷ 32 ∷ 105 ∷ 115 ∷ 32 ∷ 110 ∷ 101 ∷ 105 ∷ 116 ∷ 104 ∷ 101 ∷ 114 ∷ 32 ∷ 49 ∷ 32 ∷ 110 ∷ 111 ∷ 114 ∷ 32 ∷ 50 ∷ 10 ∷ []

-- 34: `the file's trailer says another length, or another number of pairs, than the file has`, a line
unfoldable pub lengths_text : List ℕ
lengths_text =
    116 ∷ 104 ∷ 101 ∷ 32 ∷ 102 ∷ 105 ∷ 108 ∷ 101 ∷ 39 ∷ 115 ∷ 32 ∷ 116 ∷ 114 ∷ 97 ∷ 105 ∷ 108 ∷ 101 ∷ 114 ∷ 32 ∷ 115 ∷ 97 ∷ 121 ∷ 115 ∷ 32 ∷ 97 ∷ 110 ∷ 111 ∷ 116 ∷ 104 ∷ 101 ∷ 114 ∷ 32 ∷ 108 ∷ 101 ∷ 110 ∷ 103 ∷ 116 ∷ 104 ∷ 44 ∷ 32 ∷ 111 ∷ 114 ∷ 32 ∷ 97 ∷ 110 ∷ 111 ∷ 116 ∷ 104 ∷ 101 ∷ 114 ∷ 32 ∷ 110 ∷ 117 ∷ 109 ∷ 98 ∷ 101 ∷ 114 ∷ 32 ∷ 111 ∷ 102 ∷ 32 ∷ 112 ∷ 97 ∷ 105 ∷ 114 ∷ 115 ∷ 44 ∷ 32 ∷ 116 ∷ 104 ∷ 97 ∷ 110 ∷ 32 ∷ 116 ∷ 104 ∷ 101 ∷ 32 ∷ 102 ∷ 105 ∷ 108 ∷ 101 ∷ 32 ∷ 104 ∷ 97 ∷ 115 ∷ 10 ∷ []

-- 35: `the file's trailer says another offset of the first pair than 0`, a line
unfoldable pub offset_text : List ℕ
offset_text =
    116 ∷ 104 ∷ 101 ∷ 32 ∷ 102 ∷ 105 ∷ 108 ∷ 101 ∷ 39 ∷ 115 ∷ 32 ∷ 116 ∷ 114 ∷ 97 ∷ 105 ∷ 108 ∷ 101 ∷ 114 ∷ 32 ∷ 115 ∷ 97 ∷ 121 ∷ 115 ∷ 32 ∷ 97 ∷ 110 ∷ 111 ∷ 116 ∷ 104 ∷ 101 ∷ 114 ∷ 32 ∷ 111 ∷ 102 ∷ 102 ∷ 115 ∷ 101 ∷ 116 ∷ 32 ∷ 111 ∷ 102 ∷ 32 ∷ 116 ∷ 104 ∷ 101 ∷ 32 ∷ 102 ∷ 105 ∷ 114 ∷ 115 ∷ 116 ∷ 32 ∷ 112 ∷ 97 ∷ 105 ∷ 114 ∷ 32 ∷ 116 ∷ 104 ∷ 97 ∷ 110 ∷ 32 ∷ 48 ∷ 10 ∷ []

-- 37: `a pair in the file is not of groups from 2 to 127, the lower first, or not behind the pair before it`, a line
unfoldable pub pair_text : List ℕ
pair_text =
    97 ∷ 32 ∷ 112 ∷ 97 ∷ 105 ∷ 114 ∷ 32 ∷ 105 ∷ 110 ∷ 32 ∷ 116 ∷ 104 ∷ 101 ∷ 32 ∷ 102 ∷ 105 ∷ 108 ∷ 101 ∷ 32 ∷ 105 ∷ 115 ∷ 32 ∷ 110 ∷ 111 ∷ 116 ∷ 32 ∷ 111 ∷ 102 ∷ 32 ∷ 103 ∷ 114 ∷ 111 ∷ 117 ∷ 112 ∷ 115 ∷ 32 ∷ 102 ∷ 114 ∷ 111 ∷ 109 ∷ 32 ∷ 50 ∷ 32 ∷ 116 ∷ 111 ∷ 32 ∷ 49 ∷ 50 ∷ 55 ∷ 44 ∷ 32 ∷ 116 ∷ 104 ∷ 101 ∷ 32 ∷ 108 ∷ 111 ∷ 119 ∷ 101 ∷ 114 ∷ 32 ∷ 102 ∷ 105 ∷ 114 ∷ 115 ∷ 116 ∷ 44 ∷ 32 ∷ 111 ∷ 114 ∷ 32 ∷ 110 ∷ 111 ∷ 116 ∷ 32 ∷ 98 ∷ 101 ∷ 104 ∷ 105 ∷ 110 ∷ 100 ∷ 32 ∷ 116 ∷ 104 ∷ 101 ∷ 32 ∷ 112 ∷ 97 ∷ 105 ∷ 114 ∷ 32 ∷ 98 ∷ 101 ∷ 102 ∷ 111 ∷ 114 ∷ 101 ∷ 32 ∷ 105 ∷ 116 ∷ 10 ∷ []

-- why a file is refused, by the number that `load_checks` gives: there are six
unfoldable pub refusal_text : ℕ → List ℕ
refusal_text number =
    cond (eqb number 31) short_file_text
    (cond (eqb number 32) version2_text
    (cond (eqb number 33) version_text
    (cond (eqb number 34) lengths_text
    (cond (eqb number 35) offset_text pair_text))))

-- ---- the answer

-- a text on standard output, and nothing on standard error; or the words of a refusal on standard error, and nothing on standard output
pub data Said : Type 0 where
  output : List ℕ → Said
  errors : List ℕ → Said

-- a sheet whose orders do d: where every line was accepted the file of the table that they make, else the line that failed, as `orders` says it
unfoldable pub file_said : Done → Said
file_said (done os zero) = output (file_of 16 (apply 16 os (start_table 16)))
file_said (done os (suc n)) = errors (stop_text (suc (length os)) (suc n))

-- "turns a sheet of request 07 into a version 1 file": its orders go into a fresh table as `orders` gives them
unfoldable pub save_said : List ℕ → Said
save_said sheet = cond (leb (length sheet) sheet_most) (file_said (given sheet)) (errors too_long_text)

-- a file that is refused by that number, or by 0 not
unfoldable pub sheet_said : ℕ → List ℕ → Said
sheet_said zero file = output (sheet_text 16 (loaded 16 (pairs_in file)))
sheet_said (suc n) file = errors (refusal_text (suc n))

-- "and a file back into a sheet". No file of either version is longer than the room that a save asks for.
unfoldable pub load_said : List ℕ → Said
load_said file =
    cond (leb (length file) file_room) (sheet_said (first_refusal (load_checks 16 (start_table 16) file)) file) (errors long_file_text)

-- "which way is told by an argument"
unfoldable pub zone_said : List ℕ → List ℕ → Said
zone_said word input = cond (same word save_word) (save_said input) (cond (same word load_word) (load_said input) (errors usage_text))

-- ---- a text that says it

abbrev pub is_refused : Said → Bool
is_refused (output bytes) = false
is_refused (errors words) = true

abbrev pub bytes_of : Said → List ℕ
bytes_of (output bytes) = bytes
bytes_of (errors words) = words

-- for which of the two a text is, and where it ends
abbrev pub refused : Text → Bool
refused (Output end) = false
refused (Errors end) = true

abbrev pub end_of : Text → ℕ
end_of (Output end) = end
end_of (Errors end) = end

-- a text after s was put at its front, where that ends, and for which of the two it is
pub record SaidBy (s : Said) (text : List ℕ) (r : Text) (text₁ : List ℕ) : Type 0 where
  pub which : refused r ≡ is_refused s
  pub wrote : Wrote text 0 (bytes_of s) (end_of r) text₁
  pub within : end_of r ≤ 88011
