-- Version 1, saved: the pairs and then the trailer, and the call's end.
-- Assumes nothing.
use mathlib.Core.Path.{◌≡◌, refl, sym, ap, ◌∙◌}
use mathlib.Core.Bool.{Bool, false, not}
use mathlib.Core.List.{List, [], ◌∷◌, ◌++◌}
use Prim.Native.Nat.{ℕ, ◌+◌, ◌-◌, ◌/◌, ◌≤◌, ◌<◌}
use native.Mathlib.Nat.{mul-le-mul}
use native.Mathlib.Omega.{arith}
use borrow.Author.Tests.{not-false}
use lib.ListN.{length, drop, length-append}
use Rattle.std.proofs.Common.{Ok}
use Rattle.permit.specs.Permission.{groups, permissions_sized, Width, Table}
use Rattle.permit.proofs.Laws.{table_sized}
use Rattle.tables.specs.Outcome.{answer, out}
use Rattle.tables.specs.Refusals.{first_refusal}
use Rattle.tables.proofs.RefusalLaws.{clear}
use Rattle.tables.proofs.OutcomeLaws.{gives}
use Rattle.lines.specs.Written.{Wrote}
use Rattle.lines.proofs.Lines.{behind}
use Rattle.lines.proofs.Putting.{wrote_length, wrote_front}
use Rattle.file_pairs.specs.Pairs.{pairs_of}
use Rattle.file_pairs.proofs.Writes.{pairs_length}
use Rattle.file_trailer.specs.Trailer.{trailer}
use Rattle.file_trailer.specs.Answers.{saved_as}
use Rattle.file_trailer.proofs.Trailers.{length-trailer}
use Rattle.version_1.specs.Version1.{file_of, save_checks, save_out}

-- ---- how many bytes the pairs are
pub pairs_most : (w : ℕ) (t : List ℕ) → 1 ≤ w → w ≤ 16 → length (pairs_of w t) ≤ 16002
pairs_most w t h l =
    let a : groups w - 2 ≤ 126 = omega arith in
    let b : groups w - 2 + 1 ≤ 127 = omega arith in
    let c = mul-le-mul a b in
    omega (arith, pairs_length w t h)

pub pairs_fit : (w : ℕ) (t : List ℕ) → Table w t → length (pairs_of w t) ≤ 16002
pairs_fit w t h = pairs_most w t h.some h.most

-- where the size was asked
pub table_asked : (w : ℕ) (t : List ℕ) (s : Bool) → Width w → s ≡ permissions_sized w t → not s ≡ false → Table w t
table_asked w t s h e n = table_sized w t h (sym e ∙ not-false s n)

-- ---- the file
pub pairs_ready : (w : ℕ) (t : List ℕ) (room : ℕ) → Table w t → 16400 ≤ room → Table w t × (length (pairs_of w t) ≤ room)
pairs_ready w t room h l = (h, omega (arith, pairs_fit w t h))

module _ (w : ℕ) (t f f₁ : List ℕ) (end : ℕ) (s : Table w t) (p : Wrote f 0 (pairs_of w t) end f₁) where
  end_most : end ≤ 16002
  end_most = omega (arith, p.ends, pairs_fit w t s)

  pub count_fits : end / 2 < 65536
  count_fits = omega (arith, end_most)

  pub size_adds : end + 12 < 18446744073709551616
  size_adds = omega (arith, end_most)

  pub size_fits : end + 12 < 4294967296
  size_fits = omega (arith, end_most)

  pub trailer_room : 16400 ≤ length f → end + 12 ≤ length f₁
  trailer_room h = omega (arith, end_most, wrote_length f f₁ 0 end (pairs_of w t) p)

  pub file_put : (f₂ : List ℕ) (end₁ : ℕ) → Wrote f₁ end (trailer 1 (end / 2) 0 (end + 12)) end₁ f₂ → Wrote f 0 (file_of w t) end₁ f₂
  unfolding file_of
  file_put f₂ end₁ q =
      let e : end ≡ length (pairs_of w t) = omega (arith, p.ends) in
      rw (← e) (behind p q)

pub file_length : (w : ℕ) (t : List ℕ) → length (file_of w t) ≡ length (pairs_of w t) + 12
unfolding file_of
file_length w t =
    length-append (pairs_of w t) (trailer 1 (length (pairs_of w t) / 2) 0 (length (pairs_of w t) + 12))
    ∙ ap (λ (m : ℕ). length (pairs_of w t) + m) (length-trailer 1 (length (pairs_of w t) / 2) 0 (length (pairs_of w t) + 12))

-- ---- the call's end
pub save_ready : (w : ℕ) (t : List ℕ) (room : ℕ) → Width w → 0 ≡ first_refusal (save_checks w t room) → Table w t × (16400 ≤ room)
save_ready w t room h e =
    let k = clear (save_checks w t room) 0 e refl tt in
    (table_sized w t h (not-false (permissions_sized w t) k.0), k.1.0)

module _ (w : ℕ) (t f : List ℕ) (h : Width w) (e : 0 ≡ first_refusal (save_checks w t (length f))) where
  ready : Table w t × (16400 ≤ length f)
  ready = save_ready w t (length f) h e

  fits : length (file_of w t) ≤ length f
  fits = omega (arith, ready.1, file_length w t, pairs_fit w t ready.0)

  module _ (f₁ : List ℕ) (end : ℕ) (p : Wrote f 0 (file_of w t) end f₁) where
    pub save_short : end < 4294967296
    save_short = omega (arith, p.ends, file_length w t, pairs_fit w t ready.0)

    pub save_gives : out (saved_as (Ok end)) (f₁ ∷ []) ≡ save_out w t f
    save_gives =
        let en : end ≡ length (file_of w t) = omega (arith, p.ends) in
        gives (saved_as (Ok end)) (length (file_of w t) ∷ []) (first_refusal (save_checks w t (length f))) (f₁ ∷ []) (f ∷ [])
        ((file_of w t ++ drop (length (file_of w t)) f) ∷ []) e
        (ap (λ (m : ℕ). answer (m ∷ [])) en)
        (ap (λ (u : List ℕ). u ∷ []) (wrote_front f f₁ end (file_of w t) p fits))
