-- Version 2, saved: the pairs, the phys, their count and the trailer, and the call's end.
-- Assumes nothing.
use mathlib.Core.Path.{◌≡◌, refl, ap}
use mathlib.Core.Bool.{true}
use mathlib.Core.List.{List, [], ◌∷◌, ◌++◌}
use Prim.Native.Nat.{ℕ, ◌+◌, ◌*◌, ◌/◌, ◌≤◌, ◌<◌}
use native.Mathlib.Omega.{arith}
use borrow.Author.Tests.{not-false}
use lib.ListN.{length, drop, length-append}
use Rattle.std.proofs.Common.{Ok}
use Rattle.permit.specs.Permission.{permissions_sized, Width, Table}
use Rattle.permit.proofs.Laws.{table_sized}
use Rattle.tables.specs.Outcome.{answer, out}
use Rattle.tables.specs.Refusals.{first_refusal}
use Rattle.tables.specs.Phys.{phy_record, phy_count, phys_sized}
use Rattle.tables.proofs.ArrivalLaws.{phys_records}
use Rattle.tables.proofs.RefusalLaws.{clear}
use Rattle.tables.proofs.OutcomeLaws.{gives}
use Rattle.lines.specs.Written.{Wrote}
use Rattle.lines.proofs.Lines.{behind}
use Rattle.lines.proofs.Putting.{wrote_length, wrote_front}
use Rattle.file_pairs.specs.Pairs.{pairs_of}
use Rattle.file_phys.specs.Block.{block_of}
use Rattle.file_phys.proofs.BlockLaws.{block_length}
use Rattle.file_trailer.specs.Trailer.{two, trailer}
use Rattle.file_trailer.specs.Answers.{saved_as}
use Rattle.file_trailer.proofs.Trailers.{length-trailer}
use Rattle.version_1.proofs.Saves.{pairs_fit}
use Rattle.version_2.specs.Version2.{beside, whole_file_of, save_whole_checks, save_whole_out}

-- ---- the file, part by part
module _ (w : ℕ) (phys t f f₁ : List ℕ) (pairs : ℕ) (s : Table w t) (l : length phys ≤ 128 * phy_record) (p : Wrote f 0 (pairs_of w t) pairs f₁) where
  pairs_end : pairs ≤ 16002
  pairs_end = omega (arith, p.ends, pairs_fit w t s)

  pub block_room : 16400 ≤ length f → pairs + length (block_of phys) ≤ length f₁
  block_room h = omega (arith, pairs_end, wrote_length f f₁ 0 pairs (pairs_of w t) p, block_length phys)

  pub count_fits : pairs / 2 < 65536
  count_fits = omega (arith, pairs_end)

  pub phys_fits : phy_count phys < 65536
  phys_fits = omega arith

  pub phys_thrice : 3 * phy_count phys < 18446744073709551616
  phys_thrice = omega arith

  pub beside_adds : beside (phy_count phys) < 18446744073709551616
  beside_adds = omega arith

  pub size_adds : pairs + beside (phy_count phys) < 18446744073709551616
  size_adds = omega (arith, pairs_end)

  pub size_fits : pairs + beside (phy_count phys) < 4294967296
  size_fits = omega (arith, pairs_end)

  module _ (f₂ : List ℕ) (block : ℕ) (q : Wrote f₁ pairs (block_of phys) block f₂) where
    pub count_room : 16400 ≤ length f → block + 2 ≤ length f₂
    count_room h =
        omega (arith, pairs_end, q.ends, block_length phys, wrote_length f f₁ 0 pairs (pairs_of w t) p, wrote_length f₁ f₂ pairs block (block_of phys) q)

    module _ (f₃ : List ℕ) (counted : ℕ) (r : Wrote f₂ block (two (phy_count phys)) counted f₃) where
      pub trailer_room : 16400 ≤ length f → counted + 12 ≤ length f₃
      trailer_room h =
          omega (
            arith,
            pairs_end,
            q.ends,
            r.ends,
            block_length phys,
            wrote_length f f₁ 0 pairs (pairs_of w t) p,
            wrote_length f₁ f₂ pairs block (block_of phys) q,
            wrote_length f₂ f₃ block counted (two (phy_count phys)) r,
          )

      pub whole_put : (f₄ : List ℕ) (end : ℕ) → Wrote f₃ counted (trailer 2 (pairs / 2) 0 (pairs + beside (phy_count phys))) end f₄
          → Wrote f 0 (whole_file_of w phys t) end f₄
      unfolding whole_file_of
      whole_put f₄ end o =
          let e : pairs ≡ length (pairs_of w t) = omega (arith, p.ends) in
          rw (← e) (behind (behind (behind p q) r) o)

pub whole_length : (w : ℕ) (phys t : List ℕ) → length (whole_file_of w phys t) ≡ length (pairs_of w t) + beside (phy_count phys)
unfolding whole_file_of
whole_length w phys t =
    let end : List ℕ = trailer 2 (length (pairs_of w t) / 2) 0 (length (pairs_of w t) + beside (phy_count phys)) in
    omega (
      arith,
      length-append (pairs_of w t ++ block_of phys ++ two (phy_count phys)) end,
      length-append (pairs_of w t ++ block_of phys) (two (phy_count phys)),
      length-append (pairs_of w t) (block_of phys),
      block_length phys,
      length-trailer 2 (length (pairs_of w t) / 2) 0 (length (pairs_of w t) + beside (phy_count phys)),
    )

-- ---- the call's end
pub phys_most : (phys : List ℕ) → phys_sized phys ≡ true → length phys ≤ 128 * phy_record
phys_most phys e = (phys_records phys e).1

pub save_ready : (w : ℕ) (phys t : List ℕ) (room : ℕ) → Width w → 0 ≡ first_refusal (save_whole_checks w phys t room)
    → Table w t × (length phys ≤ 128 * phy_record) × (16400 ≤ room)
save_ready w phys t room h e =
    let k = clear (save_whole_checks w phys t room) 0 e refl tt in
    (table_sized w t h (not-false (permissions_sized w t) k.1.0), phys_most phys (not-false (phys_sized phys) k.0), k.1.1.0)

module _ (w : ℕ) (phys t f : List ℕ) (h : Width w) (e : 0 ≡ first_refusal (save_whole_checks w phys t (length f))) where
  ready : Table w t × (length phys ≤ 128 * phy_record) × (16400 ≤ length f)
  ready = save_ready w phys t (length f) h e

  most : length (whole_file_of w phys t) ≤ 16400
  most = let l = ready.1 in omega (arith, whole_length w phys t, pairs_fit w t ready.0)

  fits : length (whole_file_of w phys t) ≤ length f
  fits = omega (arith, ready.2, most)

  module _ (f₁ : List ℕ) (end : ℕ) (p : Wrote f 0 (whole_file_of w phys t) end f₁) where
    pub save_short : end < 4294967296
    save_short = omega (arith, p.ends, most)

    pub save_gives : out (saved_as (Ok end)) (f₁ ∷ []) ≡ save_whole_out w phys t f
    save_gives =
        let en : end ≡ length (whole_file_of w phys t) = omega (arith, p.ends) in
        gives (saved_as (Ok end)) (length (whole_file_of w phys t) ∷ []) (first_refusal (save_whole_checks w phys t (length f))) (f₁ ∷ []) (f ∷ [])
        ((whole_file_of w phys t ++ drop (length (whole_file_of w phys t)) f) ∷ []) e
        (ap (λ (m : ℕ). answer (m ∷ [])) en)
        (ap (λ (u : List ℕ). u ∷ []) (wrote_front f f₁ end (whole_file_of w phys t) p fits))
