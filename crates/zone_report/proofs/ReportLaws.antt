-- 51h: how many rows are reported, how long the response is, what its bytes are, and what an accepted request leaves.
-- Assumes nothing.
use mathlib.Core.Path.{◌≡◌, refl, sym, ap, ◌∙◌}
use mathlib.Core.List.{List, [], ◌∷◌, ◌++◌}
use Prim.Native.Nat.{ℕ, ◌+◌, ◌*◌, ◌/◌, ◌≤◌}
use native.Mathlib.Decide.{ℕ_discrete}
use native.Mathlib.Omega.{arith}
use lib.ListN.{length, take, drop}
use borrow.Rule.Slice.PartMut.{put_mid}
use lib.Seq.{paste, take_all, take_at, drop_at, drop-drop}
use Rattle.shown_rows.specs.ShownRows.{shown_rows}
use Rattle.shown_rows.proofs.ShownLaws.{length-shown}
use Rattle.tables.specs.Refusals.{first_refusal}
use Rattle.tables.specs.Phys.{empty_set}
use Rattle.tables.proofs.RefusalLaws.{clear}
use Rattle.std.proofs.Common.{Result, Err}
use Rattle.std.specs.Prelude.{⊤}
use Rattle.requests.specs.declared.FunctionResult.{FunctionResult}
use Rattle.requests.specs.declared.FunctionResult.TheVariants.{Accepted}
use Rattle.requests.specs.Results.{number}
use Rattle.requests.specs.Requests.{Leaves}
use Rattle.requests.proofs.RequestLaws.{turns_down, accepts, leaves_done}
use Rattle.requests.proofs.ResultLaws.{number_down}
use Rattle.zone_report.specs.ZoneReport.{start_row, report_checks, row_count, rows, report_reply}

-- ---- how many rows
pub rows_most : (request : List ℕ) → row_count request ≤ 63
unfolding row_count
rows_most request = omega arith

-- none of them past the last group
pub rows_there : (request : List ℕ) → start_row request ≤ 127 → start_row request + row_count request ≤ 128
unfolding row_count
rows_there request h = omega arith

pub length-rows : (w : ℕ) (permissions request : List ℕ) → length (rows w permissions request) ≡ 8 + 16 * row_count request
unfolding rows
length-rows w permissions request = omega (arith, length-shown w permissions (start_row request) (row_count request))

-- ---- the response's bytes, as they are written: the head, eight bytes more, and the rows
pasted : (h s response : List ℕ) (n : ℕ) → length h ≡ 12 → paste (h ++ drop 12 response) 12 s n ≡ h ++ take n s ++ drop (12 + n) response
pasted h s response n e =
    rw (take_at h (drop 12 response) 12 e, ← drop-drop n 12 (h ++ drop 12 response), drop_at h (drop 12 response) 12 e, drop-drop n 12 response)

twelve : (head middle response : List ℕ) (a b c d x y : ℕ) → head ≡ (a ∷ b ∷ c ∷ d ∷ []) ++ drop 4 response
    → middle ≡ 0 ∷ 0 ∷ x ∷ y ∷ 0 ∷ 0 ∷ 0 ∷ 0 ∷ []
    → put_mid 4 8 head middle ≡ (a ∷ b ∷ c ∷ d ∷ 0 ∷ 0 ∷ x ∷ y ∷ 0 ∷ 0 ∷ 0 ∷ 0 ∷ []) ++ drop 12 response
twelve head middle response a b c d x y e em = rw (e, em, drop-drop 8 4 response)

pub written : (w : ℕ) (permissions request response head middle response₁ : List ℕ) (count : ℕ) → count ≡ row_count request
    → head ≡ (0x41 ∷ 0x51 ∷ 0x00 ∷ (2 + 4 * count) ∷ []) ++ drop 4 response
    → middle ≡ 0 ∷ 0 ∷ start_row request ∷ count ∷ 0 ∷ 0 ∷ 0 ∷ 0 ∷ []
    → response₁ ≡ paste (put_mid 4 8 head middle) 12 (shown_rows w permissions (start_row request) count) (16 * count)
    → response₁
    ≡ (0x41 ∷ 0x51 ∷ 0x00 ∷ (2 + 4 * row_count request) ∷ rows w permissions request) ++ drop (12 + 16 * row_count request) response
unfolding rows
written w permissions request response head middle response₁ count ec eh em e =
    let from : List ℕ = shown_rows w permissions (start_row request) count in
    e
    ∙ ap (λ (s : List ℕ). paste s 12 from (16 * count))
    (twelve head middle response 0x41 0x51 0x00 (2 + 4 * count) (start_row request) count eh em)
    ∙ pasted (0x41 ∷ 0x51 ∷ 0x00 ∷ (2 + 4 * count) ∷ 0 ∷ 0 ∷ start_row request ∷ count ∷ 0 ∷ 0 ∷ 0 ∷ 0 ∷ []) from response (16 * count) refl
    ∙ rw (take_all (16 * count) from (omega (arith, length-shown w permissions (start_row request) count)), ec)

-- ---- what the rule gives: where it turns the request down, nothing behind the head
pub rest_down : (w : ℕ) (phys permissions : List ℕ) (phy carried : ℕ) (request : List ℕ) (r : ℕ)
    → r ≡ first_refusal (report_checks w phys permissions phy carried request) → (r ≡ 0 → ⊥)
    → length (report_reply w phys permissions phy carried request).rest ≡ 0
unfolding report_reply
rest_down w phys permissions phy carried request r e h = rw (← turns_down _ _ phys permissions r e h)

pub dwords_down : (w : ℕ) (phys permissions : List ℕ) (phy carried : ℕ) (request : List ℕ) (e : FunctionResult)
    → number e ≡ first_refusal (report_checks w phys permissions phy carried request) → (◌≡◌ {A = Result ⊤ FunctionResult} (Err e) (Err Accepted) → ⊥)
    → 0 ≡ length (report_reply w phys permissions phy carried request).rest / 4
dwords_down w phys permissions phy carried request e en h =
    rw (rest_down w phys permissions phy carried request (number e) en (number_down e h))

-- and where its checks answer nothing
module _ (w : ℕ) (phys permissions : List ℕ) (phy carried : ℕ) (request : List ℕ) (e : 0 ≡ first_refusal (report_checks w phys permissions phy carried request)) where
  -- the request has its eight bytes, and start is a group
  pub report_long : 8 ≤ length request
  report_long = let k = clear (report_checks w phys permissions phy carried request) 0 e refl tt in omega arith

  pub report-start : start_row request ≤ 127
  report-start = let k = clear (report_checks w phys permissions phy carried request) 0 e refl tt in omega arith

  pub rest_rows : length (report_reply w phys permissions phy carried request).rest ≡ 8 + 16 * row_count request
  unfolding report_reply
  rest_rows = rw (← accepts _ _ phys permissions e) (length-rows w permissions request)

  pub dwords_rows : (count : ℕ) → count ≡ row_count request → 2 + 4 * count ≡ length (report_reply w phys permissions phy carried request).rest / 4
  dwords_rows count ec = rw rest_rows (omega arith)

  pub report_done : (count : ℕ) (response set response₁ set₁ : List ℕ) → count ≡ row_count request
      → response₁ ≡ (0x41 ∷ 0x51 ∷ 0x00 ∷ (2 + 4 * row_count request) ∷ rows w permissions request) ++ drop (12 + 16 * row_count request) response
      → set₁ ≡ empty_set ++ drop 16 set
      → Leaves 0x51 (report_reply w phys permissions phy carried request) response set 0x00 (12 + 16 * count) phys permissions response₁ set₁
  unfolding report_reply
  report_done count response set response₁ set₁ ec er es =
      let l = length-rows w permissions request in
      let dwords : length (rows w permissions request) / 4 ≡ 2 + 4 * row_count request = omega arith in
      let all : 4 + length (rows w permissions request) ≡ 12 + 16 * row_count request = omega arith in
      leaves_done 0x51 _ _ phys permissions response set 0x00 (12 + 16 * count) phys permissions response₁ set₁ e
      (record {
        answered = refl;
        counted = omega arith;
        phys_then = refl;
        permissions_then = refl;
        responded = rw (dwords, all) er;
        told = es;
      })

-- refusal 8 never comes of this rule: its length field is at most 254
pub report_dwords_most : (w : ℕ) (phys permissions : List ℕ) (phy carried : ℕ) (request : List ℕ)
    → length (report_reply w phys permissions phy carried request).rest / 4 ≤ 254
report_dwords_most w phys permissions phy carried request = go (ℕ_discrete (first_refusal (report_checks w phys permissions phy carried request)) 0)
  where
    go : Dec (first_refusal (report_checks w phys permissions phy carried request) ≡ 0) → length (report_reply w phys permissions phy carried request).rest / 4 ≤ 254
    go (yes z) = omega (arith, rest_rows w phys permissions phy carried request (sym z), rows_most request)
    go (no h) = omega (arith, rest_down w phys permissions phy carried request _ refl h)
