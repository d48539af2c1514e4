-- The trailer's numbers, put one behind the other, and what is read of them.
-- Assumes nothing.
use mathlib.Core.Path.{◌≡◌, refl, sym, ap, ◌∙◌}
use mathlib.Core.List.{List, ◌++◌}
use Prim.Native.Nat.{ℕ, ◌+◌, ◌*◌}
use lib.ListN.{length}
use Rattle.std.proofs.Common.{Result}
use Rattle.std.specs.Prelude.{IsErrAnd, ⊤}
use Rattle.std.proofs.lemmas.Result.{err_from_is_err_and}
use Rattle.tables.specs.Refusals.{Check, first_refusal}
use Rattle.tables.specs.Numbers.{number, refused}
use Rattle.tables.specs.declared.refusal.Refusal.{Refusal}
use Rattle.tables.proofs.AnswerLaws.{number_above}
use Rattle.tables.proofs.RefusalLaws.{first, here, next, none, front, back}
use Rattle.lines.specs.Written.{Wrote}
use Rattle.lines.proofs.Lines.{behind}
use Rattle.file_trailer.specs.Trailer.{two, four, trailer, count_of, offset_of, size_of, lengths_checks}

pub trailer-put : (t t₁ t₂ t₃ t₄ : List ℕ) (at i j k l version records size : ℕ) → Wrote t at (two version) i t₁ → Wrote t₁ i (two records) j t₂
    → Wrote t₂ j (four 0) k t₃ → Wrote t₃ k (four size) l t₄ → Wrote t at (trailer version records 0 size) l t₄
unfolding trailer
trailer-put t t₁ t₂ t₃ t₄ at i j k l version records size p q r s = behind (behind (behind p q) r) s

pub length-trailer : (version records offset size : ℕ) → length (trailer version records offset size) ≡ 12
unfolding trailer
length-trailer version records offset size = refl

-- ---- where the lengths are judged first, and then other rows `own`: a refusal that a `?` hands on in r
pub lengths_front : (file : List ℕ) (beside : ℕ) (own : List Check) (r : Result ⊤ Refusal) (e : Refusal) → IsErrAnd r (λ y. y ≡ e)
    → number e ≡ first_refusal (lengths_checks file beside) → refused r ≡ first_refusal (lengths_checks file beside ++ own)
lengths_front file beside own r e h q =
    let p = err_from_is_err_and r h in
    rw (p.1, p.2) (front (lengths_checks file beside) own (number e) q (number_above e))

-- or none, and the others give n
pub lengths_back : (file : List ℕ) (beside n : ℕ) (own : List Check) → 0 ≡ first_refusal (lengths_checks file beside) → n ≡ first_refusal own
    → n ≡ first_refusal (lengths_checks file beside ++ own)
lengths_back file beside n own e en = back (lengths_checks file beside) own 0 n tt e refl en

-- ---- what the lengths are refused for, by each way out: s, n and o are what was read
module _ (file : List ℕ) (beside s : ℕ) (es : s ≡ size_of file) where
  pub lengths_size : (s ≡ length file → ⊥) → 34 ≡ first_refusal (lengths_checks file beside)
  lengths_size h = first (here (λ q. h (es ∙ q)))

  module _ (hs : s ≡ length file) (n : ℕ) (en : n ≡ count_of file) where
    pub lengths_count : (2 * n + beside ≡ length file → ⊥) → 34 ≡ first_refusal (lengths_checks file beside)
    lengths_count h = first (next (sym es ∙ hs) (here (λ q. h (ap (λ (k : ℕ). 2 * k + beside) en ∙ q))))

    module _ (hn : 2 * n + beside ≡ length file) (o : ℕ) (eo : o ≡ offset_of file) where
      counted : 2 * count_of file + beside ≡ length file
      counted = ap (λ (k : ℕ). 2 * k + beside) (sym en) ∙ hn

      pub lengths_offset : (o ≡ 0 → ⊥) → 35 ≡ first_refusal (lengths_checks file beside)
      lengths_offset h = first (next (sym es ∙ hs) (next counted (here (λ q. h (eo ∙ q)))))

      pub lengths_agree : o ≡ 0 → 0 ≡ first_refusal (lengths_checks file beside)
      lengths_agree h = first (next (sym es ∙ hs) (next counted (next (sym eo ∙ h) none)))
