-- The answer to a sheet: its words put one behind the other, that neither call is refused, and what each of their answers makes of the text.
-- Assumes nothing.
use mathlib.Core.Path.{◌≡◌, sym, ap, ◌∙◌}
use mathlib.Core.List.{List, [], ◌∷◌, ◌++◌}
use Prim.Native.Nat.{ℕ, zero, suc, ◌+◌, ◌≤◌, ◌<◌}
use native.Mathlib.Nat.{zero-add}
use native.Mathlib.Omega.{arith}
use borrow.Author.Tests.{le-leb, lt-leb, le-ltb, eq-eqb}
use lib.ListN.{length, drop}
use lib.Seq.{sets-eq}
use Rattle.std.proofs.Common.{Result, Ok, Err}
use Rattle.wire.specs.Bits.{tab}
use Rattle.permit.specs.Permission.{start_byte, start_table}
use Rattle.permit.specs.Orders.{apply}
use Rattle.tables.specs.Phys.{phys_sized}
use Rattle.tables.specs.Arrival.{arrival_checks}
use Rattle.tables.specs.Refusals.{first_refusal}
use Rattle.tables.specs.declared.refusal.Refusal.{Refusal}
use Rattle.tables.specs.Outcome.{Answer, refusal, answer, Out, out, outcome}
use Rattle.requests.specs.Requests.{smp_source}
use Rattle.rack.specs.Rack.{rack, flat, rack_table}
use Rattle.lines.specs.Text.{decimal}
use Rattle.lines.specs.Written.{written, Wrote}
use Rattle.lines.proofs.Lines.{behind}
use Rattle.imports.specs.Import.{import_checks, Done, done, done_orders, done_values, imported_as, import_out}
use Rattle.imports.specs.Steps.{Leaves}
use Rattle.imports.specs.declared.Imported.{Imported}
use Rattle.imports.specs.declared.Imported.TheVariants.{Stopped, Whole}
use Rattle.imports.specs.declared.cause.Cause.{Cause}
use Rattle.imports.specs.Causes as causes
use Rattle.exports.specs.Export.{sheet_text, export_checks, exported_as, export_out}
use Rattle.exports.proofs.ExportLaws.{sheet_length}
use Rattle.orders_text.specs.OrdersText.{line_word, colon, cause_words, stop_text, too_long_text, given, text_of, orders_text}

pub stop_done : (number cause : ℕ) (t : List ℕ) (a : ℕ) (t₁ : List ℕ) (b : ℕ) (t₂ : List ℕ) (c : ℕ) (t₃ : List ℕ) (w : List ℕ) (d : ℕ) (t₄ : List ℕ) (e : ℕ) (t₅ : List ℕ)
    → Wrote t 0 line_word a t₁ → Wrote t₁ a (decimal number) b t₂ × (b ≤ a + 20) → Wrote t₂ b colon c t₃
    → (w ≡ cause_words cause) × (length w ≤ 64) → Wrote t₃ c w d t₄ → Wrote t₄ d (10 ∷ []) e t₅ → Wrote t 0 (stop_text number cause) e t₅ × (e ≤ 128)
unfolding stop_text line_word colon
stop_done number cause t a t₁ b t₂ c t₃ w d t₄ e t₅ p q r h s u =
    let v : Wrote t₃ c (cause_words cause) d t₄ = rw (← h.0) s in
    (behind (behind (behind (behind p q.0) r) v) u, omega (arith, p.ends, r.ends, s.ends, u.ends))

-- ---- a call's answer that is a text's length, with the text at the front of its buffer
pub answer_wrote : (s t : List ℕ) (n : ℕ) (t₁ : List ℕ) → length s ≤ length t
    → out (answer (n ∷ [])) (t₁ ∷ []) ≡ out (answer (length s ∷ [])) ((s ++ drop (length s) t) ∷ []) → Wrote t 0 s n t₁
unfolding written
answer_wrote s t n t₁ h e =
    let en : n ≡ length s = cc in
    let et : t₁ ≡ s ++ drop (length s) t = cc in
    record {
      ends = omega arith;
      wrote = et ∙ ap (λ (m : ℕ). s ++ drop m t) (sym (zero-add (length s))) ∙ sym (sets-eq s t 0 (omega arith));
    }

-- ---- the two calls are not refused

-- a refusal has no values, and an answer has one more than its own
abbrev pub values : Answer → ℕ
values (refusal n) = 0
values (answer vs) = suc (length vs)

abbrev pub answered : Out → Answer
answered (out a bs) = a

export_clear : (p t : List ℕ) → length p ≡ 2048 → 88011 ≤ length t → first_refusal (export_checks 16 p (length t)) ≡ 0
unfolding first_refusal
export_clear p t h l = rw (eq-eqb (length p) 2048 h, le-ltb (length t) 88011 l)

import_clear : (n : ℕ) → n ≤ 88011 → first_refusal (import_checks 16 rack_table (start_table 16) 0 0 n) ≡ 0
unfolding first_refusal arrival_checks phys_sized smp_source rack_table rack flat start_table start_byte tab
import_clear n h = rw (le-leb n 88011 h)

-- ---- an export's answer
module _ (p t : List ℕ) (r : Result ℕ Refusal) (t₁ : List ℕ) (sized : length p ≡ 2048) (room : 88011 ≤ length t) (e : out (exported_as r) (t₁ ∷ []) ≡ export_out 16 p t) where
  exported : out (exported_as r) (t₁ ∷ []) ≡ out (answer (length (sheet_text 16 p) ∷ [])) ((sheet_text 16 p ++ drop (length (sheet_text 16 p)) t) ∷ [])
  unfolding outcome
  exported = rw (export_clear p t sized room) at e

  pub pairs_done : (n : ℕ) → r ≡ Ok n → Wrote t 0 (sheet_text 16 p) n t₁ × (n ≤ 88011)
  pairs_done n k =
      let l = sheet_length 16 p (omega arith) (omega arith) in
      let w = answer_wrote (sheet_text 16 p) t n t₁ (omega arith) (rw k at exported) in
      (w, omega (arith, w.ends))

  pub export_taken : (e : Refusal) → r ≡ Err e → ⊥
  export_taken n k = absurd (omega (arith, ap values (ap answered (rw k at exported))))

-- ---- an import's answer
pub orders-given : (sheet phys t : List ℕ) (r : Result Imported Refusal) (t₁ : List ℕ) → length sheet ≤ 88011 → (phys ≡ rack_table) × (t ≡ start_table 16)
    → out (imported_as r) (t₁ ∷ []) ≡ import_out 16 phys t 0 0 sheet → Leaves 16 (given sheet) (start_table 16) r t₁
unfolding outcome
orders-given sheet phys t r t₁ h s e =
    let g : out (imported_as r) (t₁ ∷ []) ≡ out (answer (done_values (given sheet))) (apply 16 (done_orders (given sheet)) (start_table 16) ∷ []) =
    rw (s.0, s.1, import_clear (length sheet) h) at e in
    record { answered = cc; applied = cc }

whole_text_lem : (d : Done) (n : ℕ) (p : List ℕ) → Leaves 16 d (start_table 16) (Ok (Whole n)) p → sheet_text 16 p ≡ text_of d
unfolding text_of
whole_text_lem (done os zero) n p l = ap (sheet_text 16) l.applied
whole_text_lem (done os (suc k)) n p l = absurd (omega (arith, ap values l.answered))

stop_text_lem : (d : Done) (number : ℕ) (cause : Cause) (p : List ℕ) → Leaves 16 d (start_table 16) (Ok (Stopped number cause)) p
    → stop_text number (causes.number cause) ≡ text_of d
unfolding text_of
stop_text_lem (done os zero) number cause p l = absurd (omega (arith, ap values l.answered))
stop_text_lem (done os (suc k)) number cause p l = cc

module _ (sheet t : List ℕ) (end : ℕ) (t₁ : List ℕ) (short : length sheet ≤ 88011) where
  answered_by : (a : List ℕ) → a ≡ text_of (given sheet) → Wrote t 0 a end t₁ → Wrote t 0 (orders_text sheet) end t₁
  unfolding orders_text
  answered_by a e w = rw (le-leb (length sheet) 88011 short, ← e) w

  module _ (p : List ℕ) (r : Result Imported Refusal) (l : Leaves 16 (given sheet) (start_table 16) r p) where
    pub whole_answer : (n : ℕ) → r ≡ Ok (Whole n) → Wrote t 0 (sheet_text 16 p) end t₁ × (end ≤ 88011) → Wrote t 0 (orders_text sheet) end t₁ × (end ≤ 88011)
    whole_answer n e w = (answered_by (sheet_text 16 p) (whole_text_lem (given sheet) n p (rw e at l)) w.0, w.1)

    pub stop_answer : (number : ℕ) (cause : Cause) → r ≡ Ok (Stopped number cause) → Wrote t 0 (stop_text number (causes.number cause)) end t₁ × (end ≤ 128)
        → Wrote t 0 (orders_text sheet) end t₁ × (end ≤ 88011)
    stop_answer number cause e w = (answered_by (stop_text number (causes.number cause)) (stop_text_lem (given sheet) number cause p (rw e at l)) w.0, omega (arith, w.1))

    pub import_taken : (e : Refusal) → r ≡ Err e → ⊥
    import_taken n e = absurd (omega (arith, ap values (rw e at l.answered)))

pub too_long : (sheet t : List ℕ) (end : ℕ) (t₁ : List ℕ) → 88011 < length sheet → Wrote t 0 too_long_text end t₁ × (end ≤ 128)
    → Wrote t 0 (orders_text sheet) end t₁ × (end ≤ 88011)
unfolding orders_text
too_long sheet t end t₁ h w = (rw (lt-leb (length sheet) 88011 h) w.0, omega (arith, w.1))
