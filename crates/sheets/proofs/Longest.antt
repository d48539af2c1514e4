-- How long the longest sheet is: the one of a table in which every pair is on.
-- Assumes nothing.
use mathlib.Core.Path.{◌≡◌, refl, ap, ◌∙◌}
use mathlib.Core.Bool.{Bool, true, false, cond}
use mathlib.Core.List.{List, [], ◌∷◌}
use Prim.Native.Nat.{ℕ, ◌+◌, ◌-◌, ◌/◌, ◌%◌, ◌^◌, ◌≤◌, ◌<◌}
use native.Mathlib.Decide.{dec_lt}
use native.Mathlib.Omega.{arith}
use borrow.Author.Tests.{lt-ltb, le-ltb}
use lib.Dec.{eqb, ltb}
use lib.ListN.{length, replicate, length-replicate, get_or-replicate}
use Rattle.wire.specs.Bits.{bit}
use Rattle.wire.proofs.BitLaws.{each8}
use Rattle.permit.specs.Permission.{groups, table_size, place, P}
use Rattle.permit.proofs.Laws.{place_lt}
use Rattle.sheet_lines.specs.Line.{CR, LF, numeral, line_text}
use Rattle.sheet_lines.proofs.NumeralLaws.{one_figure, two-figures, three-figures}
use Rattle.exports.specs.Export.{pair_text, row_text, sheet_text}
use Rattle.lines.proofs.Putting.{sums, texts_most, texts_exact}
use Rattle.exports.proofs.ExportLaws.{line-length}
use Rattle.sheets.specs.Promises.{LongestIs, Longest}

-- ---- how many bytes, as numbers that compute
-- how many figures a number below 1,000 has
figures_in : ℕ → ℕ
figures_in n = cond (ltb n 10) 1 (cond (ltb n 100) 2 3)

-- how many bytes a line has
line_size : ℕ → ℕ → ℕ
line_size a b = figures_in a + (figures_in b + 5)

-- a row's lines
row_size : ℕ → ℕ → ℕ
row_size top a = sums (line_size a) a (top - a)

-- and a sheet's
sheet_size : ℕ → ℕ
sheet_size top = sums (row_size top) 2 (top - 2)

-- a numeral has a byte for each figure
numeral_size : (n : ℕ) → n < 1000 → length (numeral n) ≡ figures_in n
unfolding figures_in
numeral_size n k = go (dec_lt n 10) (dec_lt n 100)
  where
    go : Dec (n < 10) → Dec (n < 100) → length (numeral n) ≡ cond (ltb n 10) 1 (cond (ltb n 100) 2 3)
    go (yes h) x = ap length (one_figure n h) ∙ rw (lt-ltb n 10 h)
    go (no h) (yes l) = ap length (two-figures n (omega arith) l) ∙ rw (le-ltb n 10 (omega arith), lt-ltb n 100 l)
    go (no h) (no l) = ap length (three-figures n (omega arith) k) ∙ rw (le-ltb n 10 (omega arith), le-ltb n 100 (omega arith))

-- a line has its size in bytes
line_size_lem : (a b : ℕ) → a < 1000 → b < 1000 → length (line_text a b true (CR ∷ LF ∷ [])) ≡ line_size a b
unfolding line_size
line_size_lem a b ha hb = omega (arith, line-length a b, numeral_size a ha, numeral_size b hb)

-- ---- no sheet has more
-- a pair has a line or nothing
pair_most : (w : ℕ) (t : List ℕ) (a b : ℕ) → a < 1000 → b < 1000 → length (pair_text w t a b) ≤ line_size a b
unfolding pair_text
pair_most w t a b ha hb = go (P w t a b)
  where
    go : (p : Bool) → length (cond p (line_text a b true (CR ∷ LF ∷ [])) []) ≤ line_size a b
    go true = omega (arith, line_size_lem a b ha hb)
    go false = omega arith

-- so a row has no more than its lines
row_most : (w : ℕ) (t : List ℕ) (a : ℕ) → w ≤ 16 → a < groups w → length (row_text w t a) ≤ row_size (groups w) a
unfolding row_text row_size
row_most w t a hw h =
    texts_most (pair_text w t a) (line_size a) (groups w) (λ b l. pair_most w t a b (omega arith) (omega arith)) a (groups w - a) (omega arith)

-- and a sheet no more than its rows
sheet_most_lem : (w : ℕ) (t : List ℕ) → 1 ≤ w → w ≤ 16 → length (sheet_text w t) ≤ sheet_size (groups w)
unfolding sheet_text sheet_size
sheet_most_lem w t h hw = texts_most (row_text w t) (row_size (groups w)) (groups w) (λ a l. row_most w t a hw l) 2 (groups w - 2) (omega arith)

-- ---- and one has as many: that of a table in which every bit is set
-- such a table
filled : ℕ → List ℕ
filled w = replicate (table_size w) 255

-- it has a table's size
filled_sized : (w : ℕ) → length (filled w) ≡ table_size w
unfolding filled
filled_sized w = length-replicate (table_size w) 255

-- every bit of 255 is set
bit-set : (k : ℕ) → k < 8 → eqb (bit 255 k) 1 ≡ true
unfolding bit
bit-set = each8 (λ (k : ℕ). eqb (255 / 2 ^ k % 2) 1 ≡ true) refl refl refl refl refl refl refl refl

-- so every pair is on
filled_on : (w a b : ℕ) → a < groups w → P w (filled w) a b ≡ true
unfolding P filled
filled_on w a b h = rw (get_or-replicate {A = ℕ} (table_size w) (place w a b) 255 0 (place_lt w a b h)) (bit-set (b % 8) (omega arith))

-- every pair has its line
pair_whole : (w a b : ℕ) → a < groups w → a < 1000 → b < 1000 → length (pair_text w (filled w) a b) ≡ line_size a b
unfolding pair_text
pair_whole w a b h ha hb = rw (filled_on w a b h) (line_size_lem a b ha hb)

-- every row all its lines
row_whole : (w a : ℕ) → w ≤ 16 → a < groups w → length (row_text w (filled w) a) ≡ row_size (groups w) a
unfolding row_text row_size
row_whole w a hw h =
    texts_exact (pair_text w (filled w) a) (line_size a) (groups w) (λ b l. pair_whole w a b h (omega arith) (omega arith)) a (groups w - a) (omega arith)

-- and the sheet all its rows
sheet_whole : (w : ℕ) → 1 ≤ w → w ≤ 16 → length (sheet_text w (filled w)) ≡ sheet_size (groups w)
unfolding sheet_text sheet_size
sheet_whole w h hw = texts_exact (row_text w (filled w)) (row_size (groups w)) (groups w) (λ a l. row_whole w a hw l) 2 (groups w - 2) (omega arith)

-- ---- so the longest is as long as these numbers add up to
-- the longest sheet has as many bytes as its lines' sizes add up to
longest_is : (w n : ℕ) → 1 ≤ w → w ≤ 16 → sheet_size (groups w) ≡ n → LongestIs w n
longest_is w n h hw e = record {
  most = λ t. rw (← e) (sheet_most_lem w t h hw);
  full = filled w;
  sized = filled_sized w;
  whole = sheet_whole w h hw ∙ e;
}

-- with 128 groups
large_size : sheet_size 128 ≡ 74549
unfolding sheet_size row_size line_size figures_in sums
large_size = refl

-- and with 8
small_size : sheet_size 8 ≡ 147
unfolding sheet_size row_size line_size figures_in sums
small_size = refl

-- of either shelf
pub longest : Longest
longest = (longest_is 16 74549 (omega arith) (omega arith) large_size, longest_is 1 147 (omega arith) (omega arith) small_size)
