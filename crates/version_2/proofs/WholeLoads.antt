-- Version 2, loaded: the refusals, row by row, the block of a file whose parts fill it, and the call's ends.
-- Assumes nothing.
use mathlib.Core.Path.{◌≡◌, refl, sym, ap, ap₂, ◌∙◌}
use mathlib.Core.Bool.{Bool, true, false, not}
use mathlib.Core.List.{List, [], ◌∷◌, ◌++◌}
use Prim.Native.Nat.{ℕ, ◌+◌, ◌-◌, ◌*◌, ◌%◌, ◌≤◌, ◌<◌}
use native.Mathlib.Decide.{ℕ_discrete}
use native.Mathlib.Omega.{arith}
use borrow.Author.Tests.{eq-eqb, ne_eqb, not-false}
use lib.ListN.{length, take, drop, length-drop}
use lib.Seq.{length-take-le}
use Rattle.permit.specs.Permission.{permissions_sized, Width, Table}
use Rattle.permit.proofs.Laws.{table_sized}
use Rattle.std.proofs.Common.{Result, Ok}
use Rattle.std.specs.Prelude.{IsErrAnd, ⊤}
use Rattle.tables.specs.Outcome.{answer, out}
use Rattle.tables.specs.Numbers.{number, refused}
use Rattle.tables.specs.declared.refusal.Refusal.{Refusal}
use Rattle.tables.specs.Refusals.{Check, refuse, below, differ, off, first_refusal}
use Rattle.tables.specs.Phys.{phy_count, phys_sized}
use Rattle.tables.proofs.RefusalLaws.{clear, skipped, apart, agrees_not, first, here, next, none}
use Rattle.tables.proofs.OutcomeLaws.{gives}
use Rattle.file_pairs.specs.Pairs.{ascending, loaded}
use Rattle.file_phys.specs.Block.{numbered, all_writable, rezoned, Below}
use Rattle.file_phys.proofs.BlockLaws.{numbers_below}
use Rattle.file_trailer.specs.Trailer.{version_of, count_of, pairs_in, lengths_checks}
use Rattle.file_trailer.specs.Answers.{loaded_as}
use Rattle.file_trailer.specs.declared.Version.TheVariants.{One, Two}
use Rattle.file_trailer.proofs.Trailers.{lengths_front, lengths_back}
use Rattle.version_1.specs.Version1.{pairs_checks, Holding}
use Rattle.version_2.specs.Version2.{beside, phys_of, block_in, block_checks, whole_checks, version_checks, load_whole_checks, phys_after, load_whole_out, Measured}

-- ---- the block of a file whose parts fill it
pub measured_holds : (file : List ℕ) → Measured file → Holding file
measured_holds file m = let l = m.long in let f = m.filled in record { long = omega arith; there = omega arith }

pub block_ends : (file : List ℕ) → Measured file → (length file - 14 ≡ 2 * count_of file + 3 * phys_of file) × (length file - 14 ≤ length file)
block_ends file m = let f = m.filled in (omega arith, omega arith)

module _ (file : List ℕ) (m : Measured file) (start end : ℕ) (es : start ≡ 2 * count_of file) (ee : end ≡ 2 * count_of file + 3 * phys_of file) where
  slice : take (end - start) (drop start file) ≡ block_in file
  unfolding block_in
  slice =
      let e : end - start ≡ 3 * phys_of file = omega arith in
      ap₂ (λ (i j : ℕ). take i (drop j file)) e es

  pub slice_thirds : length (take (end - start) (drop start file)) % 3 ≡ 0
  slice_thirds =
      let f = m.filled in
      let e : end - start ≡ 3 * phys_of file = omega arith in
      let l = length-take-le (end - start) (drop start file) (omega (arith, length-drop start file)) in
      omega arith

  pub slice_numbered : (count : ℕ) (r : Bool) → r ≡ numbered count 0 (take (end - start) (drop start file)) → r ≡ numbered count 0 (block_in file)
  slice_numbered count r q = rw (← slice) q

  pub slice_writable : (w : ℕ) (r : Bool) → r ≡ all_writable w (take (end - start) (drop start file)) → r ≡ all_writable w (block_in file)
  slice_writable w r q = rw (← slice) q

  pub slice_below : (count : ℕ) → numbered count 0 (block_in file) ≡ true → Below count (take (end - start) (drop start file))
  slice_below count q = rw slice (numbers_below count 0 (block_in file) q)

  pub slice_done : (phys u : List ℕ) → u ≡ rezoned phys (take (end - start) (drop start file)) → u ≡ rezoned phys (block_in file)
  slice_done phys u q = q ∙ ap (rezoned phys) slice

-- ---- the rows behind the lengths: n, u, x and y are what was found
module _ (w : ℕ) (phys file : List ℕ) (n : ℕ) (en : n ≡ phys_of file) where
  pub count_off : (n ≡ phy_count phys → ⊥) → 36 ≡ first_refusal (block_checks w phys file)
  count_off h = first (here (λ q. h (en ∙ q)))

  module _ (hn : n ≡ phy_count phys) (u : Bool) (eu : u ≡ ascending w 0 (pairs_in file)) where
    pub pair_off : not u ≡ true → 37 ≡ first_refusal (block_checks w phys file)
    pair_off h = first (next (sym en ∙ hn) (here (agrees_not eu h)))

    module _ (hu : not u ≡ false) (x : Bool) (ex : x ≡ numbered (phy_count phys) 0 (block_in file)) where
      pub phy_off : not x ≡ true → 38 ≡ first_refusal (block_checks w phys file)
      phy_off h = first (next (sym en ∙ hn) (next (agrees_not eu hu) (here (agrees_not ex h))))

      module _ (hx : not x ≡ false) (y : Bool) (ey : y ≡ all_writable w (block_in file)) where
        pub zone_off : not y ≡ true → 39 ≡ first_refusal (block_checks w phys file)
        zone_off h = first (next (sym en ∙ hn) (next (agrees_not eu hu) (next (agrees_not ex hx) (here (agrees_not ey h)))))

        pub block_taken : not y ≡ false → 0 ≡ first_refusal (block_checks w phys file)
        block_taken h = first (next (sym en ∙ hn) (next (agrees_not eu hu) (next (agrees_not ex hx) (next (agrees_not ey h) none))))

-- ---- the rows of version 2: n is the count that was read
pub whole_short : (w : ℕ) (phys file : List ℕ) → length file < 14 → 34 ≡ first_refusal (whole_checks w phys file)
whole_short w phys file h = first (here h)

pub beside_fits : (n : ℕ) → n < 65536 → beside n < 1000000
beside_fits n h = omega arith

module _ (file : List ℕ) (l : 14 ≤ length file) (n : ℕ) (en : n ≡ phys_of file) where
  of_count : (r : ℕ) → r ≡ first_refusal (lengths_checks file (beside n)) → r ≡ first_refusal (lengths_checks file (beside (phys_of file)))
  of_count r e = rw (← en) e

  pub whole_measured : 0 ≡ first_refusal (lengths_checks file (beside n)) → Measured file
  whole_measured e =
      let k = clear (lengths_checks file (beside (phys_of file))) 0 (of_count 0 e) refl tt in
      record { long = l; filled = k.1.0 }

  module _ (w : ℕ) (phys : List ℕ) where
    -- the refusal e of the lengths, which a `?` hands on in r
    pub whole_lengths : (r : Result ⊤ Refusal) (e : Refusal) → IsErrAnd r (λ y. y ≡ e) → number e ≡ first_refusal (lengths_checks file (beside n))
        → refused r ≡ first_refusal (whole_checks w phys file)
    whole_lengths r e h q =
        lengths_front file (beside (phys_of file)) (block_checks w phys file) r e h (of_count (number e) q)
        ∙ sym (skipped 34 (below (length file) 14) (lengths_checks file (beside (phys_of file)) ++ block_checks w phys file) l)

    pub whole_block : (m : ℕ) → 0 ≡ first_refusal (lengths_checks file (beside n)) → m ≡ first_refusal (block_checks w phys file)
        → m ≡ first_refusal (whole_checks w phys file)
    whole_block m e em =
        lengths_back file (beside (phys_of file)) m (block_checks w phys file) (of_count 0 e) em
        ∙ sym (skipped 34 (below (length file) 14) (lengths_checks file (beside (phys_of file)) ++ block_checks w phys file) l)

-- ---- which version: v is the one that was read
module _ (w : ℕ) (phys file : List ℕ) (v : ℕ) (ev : v ≡ version_of file) where
  pub as_1 : (r : ℕ) → v ≡ 1 → r ≡ first_refusal (pairs_checks w file) → r ≡ first_refusal (version_checks w phys file)
  unfolding version_checks
  as_1 r h e = rw (eq-eqb (version_of file) 1 (sym ev ∙ h)) e

  pub as_2 : (r : ℕ) → (v ≡ 1 → ⊥) → v ≡ 2 → r ≡ first_refusal (whole_checks w phys file) → r ≡ first_refusal (version_checks w phys file)
  unfolding version_checks
  as_2 r h g e =
      rw (ne_eqb (version_of file) 1 (λ q. h (ev ∙ q)))
      (e ∙ sym (skipped 33 (differ (version_of file) 2) (whole_checks w phys file) (sym ev ∙ g)))

  pub unknown : (v ≡ 1 → ⊥) → (v ≡ 2 → ⊥) → 33 ≡ first_refusal (version_checks w phys file)
  unfolding version_checks
  unknown h g = rw (ne_eqb (version_of file) 1 (λ q. h (ev ∙ q))) (first (here (λ q. g (ev ∙ q))))

pub version_judged : (w : ℕ) (phys permissions file : List ℕ) (a b : Bool) (r : ℕ) → a ≡ phys_sized phys → not a ≡ false → b ≡ permissions_sized w permissions
    → not b ≡ false → 12 ≤ length file → r ≡ first_refusal (version_checks w phys file) → r ≡ first_refusal (load_whole_checks w phys permissions file)
unfolding load_whole_checks
version_judged w phys permissions file a b r ea ha eb hb hl er =
    er
    ∙ sym (skipped 1 (off (phys_sized phys)) _ (agrees_not ea ha)
    ∙ skipped 1 (off (permissions_sized w permissions)) _ (agrees_not eb hb)
    ∙ skipped 31 (below (length file) 12) (version_checks w phys file) hl)

-- ---- what a load that is not refused knows
module _ (w : ℕ) (phys permissions file : List ℕ) (e : 0 ≡ first_refusal (load_whole_checks w phys permissions file)) where
  sizes : List Check
  sizes = refuse 1 (off (phys_sized phys)) ∷ refuse 1 (off (permissions_sized w permissions)) ∷ refuse 31 (below (length file) 12) ∷ []

  parts : (first_refusal sizes ≡ 0) × (first_refusal (version_checks w phys file) ≡ 0)
  unfolding sizes load_whole_checks
  parts = apart sizes (version_checks w phys file) tt (sym e)

  pub load_sizes : (phys_sized phys ≡ true) × (permissions_sized w permissions ≡ true) × (12 ≤ length file)
  unfolding sizes
  load_sizes =
      let k = clear sizes 0 (sym parts.0) refl tt in
      (not-false (phys_sized phys) k.0, not-false (permissions_sized w permissions) k.1.0, k.1.1.0)

  pub load_1 : version_of file ≡ 1 → first_refusal (pairs_checks w file) ≡ 0
  unfolding version_checks
  load_1 h = let p = parts.1 in rw (eq-eqb (version_of file) 1 h) at p

  whole_passed : (version_of file ≡ 1 → ⊥) → (version_of file ≡ 2) × (first_refusal (whole_checks w phys file) ≡ 0)
  unfolding version_checks
  whole_passed h =
      let p : first_refusal (refuse 33 (differ (version_of file) 2) ∷ whole_checks w phys file) ≡ 0 = rw (ne_eqb (version_of file) 1 h) at parts.1 in
      let k = apart (refuse 33 (differ (version_of file) 2) ∷ []) (whole_checks w phys file) tt p in
      ((clear (refuse 33 (differ (version_of file) 2) ∷ []) 0 (sym k.0) refl tt).0, k.1)

  pub load_2 : (version_of file ≡ 1 → ⊥)
      → (version_of file ≡ 2) × Measured file × (phys_of file ≡ phy_count phys) × (ascending w 0 (pairs_in file) ≡ true)
      × (numbered (phy_count phys) 0 (block_in file) ≡ true) × (all_writable w (block_in file) ≡ true)
  load_2 h =
      let p = whole_passed h in
      let k = clear (whole_checks w phys file) 0 (sym p.1) refl tt in
      let b = k.1.1.1.1 in (
        p.0,
        record { long = k.0; filled = k.1.1.0 },
        b.0,
        not-false (ascending w 0 (pairs_in file)) b.1.0,
        not-false (numbered (phy_count phys) 0 (block_in file)) b.1.1.0,
        not-false (all_writable w (block_in file)) b.1.1.1.0,
      )

  pub load_pairs : Holding file × (ascending w 0 (pairs_in file) ≡ true)
  load_pairs = go (ℕ_discrete (version_of file) 1)
    where
      go : Dec (version_of file ≡ 1) → Holding file × (ascending w 0 (pairs_in file) ≡ true)
      go (yes h) =
          let k = clear (pairs_checks w file) 0 (sym (load_1 h)) refl tt in
          (record { long = load_sizes.2; there = omega arith }, not-false (ascending w 0 (pairs_in file)) k.1.1.1.0)
      go (no h) = let k = load_2 h in (measured_holds file k.1, k.3)

  pub load_ready : Width w → Table w permissions × Holding file × (ascending w 0 (pairs_in file) ≡ true)
  load_ready h = (table_sized w permissions h load_sizes.1, load_pairs.0, load_pairs.1)

  -- ---- the call's ends, with v the version that was read
  pub phys_ready : (v : ℕ) → v ≡ version_of file → (v ≡ 1 → ⊥) → Measured file × (numbered (phy_count phys) 0 (block_in file) ≡ true)
  phys_ready v ev h = let k = load_2 (λ q. h (ev ∙ q)) in (k.1, k.4)

  module _ (v : ℕ) (ev : v ≡ version_of file) (t : List ℕ) (et : t ≡ loaded w (pairs_in file)) where
    pub load_gives_1 : v ≡ 1 → out (loaded_as (Ok One)) (phys ∷ t ∷ []) ≡ load_whole_out w phys permissions file
    unfolding phys_after
    load_gives_1 h =
        let q : version_of file ≡ 1 = sym ev ∙ h in
        gives (loaded_as (Ok One)) (version_of file ∷ []) (first_refusal (load_whole_checks w phys permissions file)) (phys ∷ t ∷ []) (phys ∷ permissions ∷ [])
        (phys_after phys file ∷ loaded w (pairs_in file) ∷ []) e (ap (λ (n : ℕ). answer (n ∷ [])) (sym q)) (rw (eq-eqb (version_of file) 1 q, et))

    pub load_gives_2 : (phys₁ : List ℕ) → (v ≡ 1 → ⊥) → phys₁ ≡ rezoned phys (block_in file)
        → out (loaded_as (Ok Two)) (phys₁ ∷ t ∷ []) ≡ load_whole_out w phys permissions file
    unfolding phys_after
    load_gives_2 phys₁ h ep =
        let n : version_of file ≡ 1 → ⊥ = λ q. h (ev ∙ q) in
        gives (loaded_as (Ok Two)) (version_of file ∷ []) (first_refusal (load_whole_checks w phys permissions file)) (phys₁ ∷ t ∷ [])
        (phys ∷ permissions ∷ [])
        (phys_after phys file ∷ loaded w (pairs_in file) ∷ []) e (ap (λ (m : ℕ). answer (m ∷ [])) (sym (load_2 n).0)) (rw (ne_eqb (version_of file) 1 n, ep, et))
