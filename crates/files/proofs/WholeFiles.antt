-- Files of version 2: what is known of one that is not refused, that it is the file of what it loads, and that the file of two tables loads to them.
-- Assumes nothing.
use mathlib.Core.Path.{◌≡◌, refl, sym, ap, ap₂, ◌∙◌}
use mathlib.Core.Bool.{Bool, true, false, cond, not}
use mathlib.Core.List.{List, [], ◌∷◌, ◌++◌, append_assoc}
use mathlib.Core.Logic.{◌⊎◌, inl, inr}
use Prim.Native.Nat.{ℕ, suc, ◌+◌, ◌-◌, ◌*◌, ◌/◌, ◌≤◌}
use native.Mathlib.Omega.{arith}
use borrow.Author.Tests.{eqb-true, eq-eqb, ne_eqb, not-false}
use lib.Dec.{eqb}
use lib.ListN.{length, take, drop, get_or, length-append, length-drop}
use lib.Seq.{length-take-le, take_at, drop_at, take-add, drop-cons}
use Rattle.wire.specs.Address.{big_endian}
use Rattle.permit.specs.Permission.{table_size, permissions_sized, Width}
use Rattle.tables.specs.Refusals.{Check, refuse, below, off, differ, first_refusal}
use Rattle.tables.specs.Outcome.{answer, out}
use Rattle.tables.specs.Phys.{phy_record, phy_count, phys_sized}
use Rattle.tables.proofs.RefusalLaws.{clear, first, none, next, back, apart}
use Rattle.file_pairs.specs.Pairs.{pairs_of, ascending, loaded}
use Rattle.file_pairs.proofs.Records.{Ascending, ascends, ascends_back}
use Rattle.file_phys.specs.Block.{block_of, numbered, all_writable, rezoned}
use Rattle.file_phys.proofs.BlockLaws.{block_length}
use Rattle.file_trailer.specs.Trailer.{two, trailer, tail, version_of, count_of, offset_of, size_of, pairs_in}
use Rattle.file_trailer.proofs.Trailers.{length-trailer}
use Rattle.version_1.specs.Version1.{pairs_checks}
use Rattle.version_2.specs.Version2.{beside, whole_file_of, phys_of, block_in, whole_checks, version_checks, load_whole_checks, phys_after, load_whole_out}
use Rattle.files.specs.Promises.{Bytes, Described, Zoned, SameButZones}
use Rattle.files.proofs.Listed.{pairs_ascend}
use Rattle.files.proofs.PairTrips.{records_of_loaded, loaded_of_records}
use Rattle.files.proofs.Ends.{read_two, version_of_lem, count_of_lem, offset_of_lem, size_of_lem, two_of, file_parts}
use Rattle.files.proofs.Answered.{passes, sized_row}
use Rattle.files.proofs.FileTrips.{Agreed, agreed, agreed_passes, even_pairs}
use Rattle.files.proofs.BlockTrips.{same_sized, zoned_is, is_zoned, length-rezoned, rezoned_keeps, block_back, block_numbered, block_restores}

-- ---- a file of version 2 that is not refused
pub record Filled (w : ℕ) (phys file : List ℕ) : Type 0 where
  pub long : 14 ≤ length file
  pub version : version_of file ≡ 2
  pub size : size_of file ≡ length file
  pub filled : 2 * count_of file + beside (phys_of file) ≡ length file
  pub offset : offset_of file ≡ 0
  pub count : phys_of file ≡ phy_count phys
  pub up : Ascending w 0 (pairs_in file)
  pub numbers : numbered (phy_count phys) 0 (block_in file) ≡ true
  pub zones : all_writable w (block_in file) ≡ true

whole_clear : (w : ℕ) (phys file : List ℕ) → first_refusal (refuse 33 (differ (version_of file) 2) ∷ whole_checks w phys file) ≡ 0 → Filled w phys file
whole_clear w phys file e =
    let k = clear (refuse 33 (differ (version_of file) 2) ∷ whole_checks w phys file) 0 (sym e) refl tt in
    let r = k.1.1.1.1.1 in
    record {
      version = k.0;
      long = k.1.0;
      size = k.1.1.0;
      filled = k.1.1.1.0;
      offset = k.1.1.1.1.0;
      count = r.0;
      up = ascends w 0 (pairs_in file) (not-false (ascending w 0 (pairs_in file)) r.1.0);
      numbers = not-false (numbered (phy_count phys) 0 (block_in file)) r.1.1.0;
      zones = not-false (all_writable w (block_in file)) r.1.1.1.0;
    }

whole_passes : (w : ℕ) (phys file : List ℕ) → Filled w phys file → 0 ≡ first_refusal (refuse 33 (differ (version_of file) 2) ∷ whole_checks w phys file)
whole_passes w phys file f =
    first
    (next f.version
    (next f.long
    (next f.size
    (next f.filled
    (next f.offset
    (next f.count
    (next (ap not (ascends_back w 0 (pairs_in file) f.up))
    (next (ap not f.numbers)
    (next (ap not f.zones) none)))))))))

-- ---- the version 2 reader, in either version
-- the rows before it looks at the version
abbrev front_checks : ℕ → List ℕ → List ℕ → List ℕ → List Check
front_checks w phys permissions file =
    refuse 1 (off (phys_sized phys)) ∷ refuse 1 (off (permissions_sized w permissions)) ∷ refuse 31 (below (length file) 12) ∷ []

pub reader_passes : (w : ℕ) (phys permissions file : List ℕ) → phys_sized phys ≡ true → not (permissions_sized w permissions) ≡ false → 12 ≤ length file
    → 0 ≡ first_refusal (version_checks w phys file) → 0 ≡ first_refusal (load_whole_checks w phys permissions file)
unfolding load_whole_checks
reader_passes w phys permissions file s p l e =
    back (front_checks w phys permissions file) (version_checks w phys file) 0 0 tt (first (next (ap not s) (next p (next l none)))) refl e

pub older_passes : (w : ℕ) (phys file : List ℕ) → Agreed w file → 0 ≡ first_refusal (version_checks w phys file)
unfolding version_checks
older_passes w phys file a =
    rw (eq-eqb (version_of file) 1 a.version) (first (agreed_passes w file a))

newer : (file : List ℕ) → version_of file ≡ 2 → eqb (version_of file) 1 ≡ false
newer file v = ne_eqb (version_of file) 1 (λ q. omega arith)

newer_passes : (w : ℕ) (phys file : List ℕ) → Filled w phys file → 0 ≡ first_refusal (version_checks w phys file)
unfolding version_checks
newer_passes w phys file f = rw (newer file f.version) (whole_passes w phys file f)

-- what is known of a file that it takes
module _ (w : ℕ) (phys permissions file : List ℕ) (e : first_refusal (load_whole_checks w phys permissions file) ≡ 0) where
  parted : (first_refusal (front_checks w phys permissions file) ≡ 0) × (first_refusal (version_checks w phys file) ≡ 0)
  unfolding load_whole_checks
  parted = apart (front_checks w phys permissions file) (version_checks w phys file) tt e

  pub reader_sized : (phys_sized phys ≡ true) × (12 ≤ length file)
  reader_sized =
      let k = clear (front_checks w phys permissions file) 0 (sym parted.0) refl tt in
      (not-false (phys_sized phys) k.0, k.1.1.0)

  pub reader_took : Agreed w file ⊎ Filled w phys file
  unfolding version_checks
  reader_took = go (eqb (version_of file) 1) refl parted.1
    where
      go : (v : Bool) → eqb (version_of file) 1 ≡ v
          → first_refusal (cond v (pairs_checks w file) (refuse 33 (differ (version_of file) 2) ∷ whole_checks w phys file)) ≡ 0
          → Agreed w file ⊎ Filled w phys file
      go true q z = inl (agreed w file reader_sized.1 (eqb-true (version_of file) 1 q) z)
      go false q z = inr (whole_clear w phys file z)

pub after_older : (phys file : List ℕ) → version_of file ≡ 1 → phys_after phys file ≡ phys
unfolding phys_after
after_older phys file v = rw (eq-eqb (version_of file) 1 v)

pub after_newer : (phys file : List ℕ) → version_of file ≡ 2 → phys_after phys file ≡ rezoned phys (block_in file)
unfolding phys_after
after_newer phys file v = rw (newer file v)

-- ---- it is the file of what it loads
module _ (w : ℕ) (wide : Width w) (phys file : List ℕ) (f : Filled w phys file) where
  pairs_twice : length (pairs_in file) ≡ 2 * count_of file
  unfolding pairs_in
  pairs_twice = let m = f.filled in length-take-le (2 * count_of file) file (omega arith)

  block_thirds : length (block_in file) ≡ 3 * phy_count phys
  unfolding block_in
  block_thirds =
      let m = f.filled in
      length-take-le (3 * phys_of file) (drop (2 * count_of file) file) (omega (arith, length-drop (2 * count_of file) file)) ∙ ap (λ (k : ℕ). 3 * k) f.count

  block_of_loaded : block_of (rezoned phys (block_in file)) ≡ block_in file
  block_of_loaded = block_back w wide phys (block_in file) block_thirds f.numbers f.zones

  count_of_loaded : phy_count (rezoned phys (block_in file)) ≡ phys_of file
  count_of_loaded = ap (λ (n : ℕ). n / phy_record) (length-rezoned phys (block_in file)) ∙ sym f.count

  count_bytes : (k : ℕ) → Bytes file → length file - 14 ≡ k → two (phys_of file) ≡ get_or file k 0 ∷ get_or file (suc k) 0 ∷ []
  unfolding phys_of big_endian
  count_bytes k b e =
      let z : (0 + get_or file k 0) * 256 + get_or file (suc k) 0 ≡ get_or file k 0 * 256 + get_or file (suc k) 0 = omega arith in
      rw e (ap two z ∙ two_of (get_or file k 0) (get_or file (suc k) 0) (b (suc k)))

  parts : Bytes file → take (tail file) file ≡ pairs_in file ++ block_in file ++ two (phys_of file)
  unfolding pairs_in block_in
  parts by =
      let m = f.filled in
      let a : ℕ = 2 * count_of file in
      let b : ℕ = 3 * phys_of file in
      let k : tail file ≡ a + b + 2 = omega arith in
      let i : length file - 14 ≡ a + b = omega arith in
      let last : take 2 (drop (a + b) file) ≡ get_or file (a + b) 0 ∷ get_or file (suc (a + b)) 0 ∷ [] =
      ap (take 2) (drop-cons file (a + b) 0 (omega arith) ∙ ap (λ (l : List ℕ). get_or file (a + b) 0 ∷ l) (drop-cons file (suc (a + b)) 0 (omega arith))) in
      ap (λ (j : ℕ). take j file) k
      ∙ take-add (a + b) 2 file
      ∙ ap₂ (λ (x y : List ℕ). x ++ y) (take-add a b file) (last ∙ sym (count_bytes (a + b) by i))

  pub whole_file_of_load : Bytes file → whole_file_of w (rezoned phys (block_in file)) (loaded w (pairs_in file)) ≡ file
  unfolding whole_file_of
  whole_file_of_load by =
      let m = f.filled in
      let l = f.long in
      let ps : List ℕ = pairs_in file in
      let b : List ℕ = block_in file in
      let p : ℕ = phys_of file in
      let es : size_of file ≡ length ps + beside p = f.size ∙ omega (arith, pairs_twice) in
      let en : count_of file ≡ length ps / 2 = omega (arith, pairs_twice) in
      let whole : file ≡ ps ++ b ++ two p ++ trailer (version_of file) (count_of file) (offset_of file) (size_of file) =
      file_parts file by (omega arith) ∙ ap (λ (x : List ℕ). x ++ trailer (version_of file) (count_of file) (offset_of file) (size_of file)) (parts by) in
      ap₂ (λ (x y : List ℕ). x ++ y ++ two (phy_count (rezoned phys b)) ++ trailer 2 (length x / 2) 0 (length x + beside (phy_count (rezoned phys b))))
      (records_of_loaded w wide ps f.up) block_of_loaded
      ∙ ap (λ (c : ℕ). ps ++ b ++ two c ++ trailer 2 (length ps / 2) 0 (length ps + beside c)) count_of_loaded
      ∙ sym (whole
      ∙ ap₂ (λ (v o : ℕ). ps ++ b ++ two p ++ trailer v (count_of file) o (size_of file)) f.version f.offset
      ∙ ap₂ (λ (n s : ℕ). ps ++ b ++ two p ++ trailer 2 n 0 s) en es)

  -- and the phy table that it leaves is one to be saved, the same but for bytes 0 and 1
  pub zoned-loaded : phys_sized phys ≡ true → Zoned w (rezoned phys (block_in file))
  zoned-loaded s =
      zoned_is w (rezoned phys (block_in file)) (same_sized phys (rezoned phys (block_in file)) (sym (length-rezoned phys (block_in file))) s)
      (ap (all_writable w) block_of_loaded ∙ f.zones)

  pub same-loaded : SameButZones phys (rezoned phys (block_in file))
  same-loaded = record { sized = sym (length-rezoned phys (block_in file)); others = λ i k h l u. sym (rezoned_keeps phys (block_in file) i k l u) }

-- ---- what a reader finds in pairs, a block, its count and a trailer
module _ (ps b : List ℕ) (p v n o s : ℕ) (lb : length b ≡ 3 * p) where
  pub length_parts : length (ps ++ b ++ two p ++ trailer v n o s) ≡ length ps + beside p
  length_parts =
      omega (
        arith,
        length-append (ps ++ b ++ two p) (trailer v n o s),
        length-append (ps ++ b) (two p),
        length-append ps b,
        lb,
        length-trailer v n o s,
      )

  -- cut behind the pairs
  behind_pairs : (ps ++ b ++ two p ++ trailer v n o s) ≡ ps ++ (b ++ (two p ++ trailer v n o s))
  behind_pairs = append_assoc (ps ++ b) (two p) (trailer v n o s) ∙ append_assoc ps b (two p ++ trailer v n o s)

  phys_in_lem : phys_of (ps ++ b ++ two p ++ trailer v n o s) ≡ p
  unfolding phys_of
  phys_in_lem =
      let e : length (ps ++ b ++ two p ++ trailer v n o s) - 14 ≡ length (ps ++ b) + 0 = omega (arith, length_parts, length-append ps b, lb) in
      ap (λ (i : ℕ). big_endian (ps ++ b ++ two p ++ trailer v n o s) 2 i 0) e
      ∙ ap (λ (l : List ℕ). big_endian l 2 (length (ps ++ b) + 0) 0) (append_assoc (ps ++ b) (two p) (trailer v n o s))
      ∙ read_two (ps ++ b) (two p ++ trailer v n o s) 0
      ∙ omega arith

  module _ (even : 2 * n ≡ length ps) where
    count_in : 2 * count_of (ps ++ b ++ two p ++ trailer v n o s) ≡ length ps
    count_in = ap (λ (m : ℕ). 2 * m) (count_of_lem (ps ++ b ++ two p) v n o s) ∙ even

    pairs_in_lem : pairs_in (ps ++ b ++ two p ++ trailer v n o s) ≡ ps
    unfolding pairs_in
    pairs_in_lem =
        ap (λ (m : ℕ). take m (ps ++ b ++ two p ++ trailer v n o s)) count_in
        ∙ ap (take (length ps)) behind_pairs
        ∙ take_at ps (b ++ (two p ++ trailer v n o s)) (length ps) refl

    block_in_lem : block_in (ps ++ b ++ two p ++ trailer v n o s) ≡ b
    unfolding block_in
    block_in_lem =
        ap₂ (λ (k m : ℕ). take k (drop m (ps ++ b ++ two p ++ trailer v n o s))) (ap (λ (m : ℕ). 3 * m) phys_in_lem) count_in
        ∙ ap (λ (l : List ℕ). take (3 * p) (drop (length ps) l)) behind_pairs
        ∙ ap (take (3 * p)) (drop_at ps (b ++ (two p ++ trailer v n o s)) (length ps) refl)
        ∙ take_at b (two p ++ trailer v n o s) (3 * p) lb

-- ---- the file of two tables is one that is not refused
module _ (w : ℕ) (wide : Width w) (phys t : List ℕ) where
  own_pairs : pairs_in (whole_file_of w phys t) ≡ pairs_of w t
  unfolding whole_file_of
  own_pairs =
      pairs_in_lem (pairs_of w t) (block_of phys) (phy_count phys) 2 (length (pairs_of w t) / 2) 0 (length (pairs_of w t) + beside (phy_count phys)) (block_length phys)
      (even_pairs w wide t)

  own_block : block_in (whole_file_of w phys t) ≡ block_of phys
  unfolding whole_file_of
  own_block =
      block_in_lem (pairs_of w t) (block_of phys) (phy_count phys) 2 (length (pairs_of w t) / 2) 0 (length (pairs_of w t) + beside (phy_count phys)) (block_length phys)
      (even_pairs w wide t)

  own_filled : (phys₁ : List ℕ) → phy_count phys ≡ phy_count phys₁ → Zoned w phys → Filled w phys₁ (whole_file_of w phys t)
  unfolding whole_file_of
  own_filled phys₁ hc z =
      let ps : List ℕ = pairs_of w t in
      let b : List ℕ = block_of phys in
      let p : ℕ = phy_count phys in
      let n : ℕ = length ps / 2 in
      let s : ℕ = length ps + beside p in
      let lb : length b ≡ 3 * p = block_length phys in
      let len : length (ps ++ b ++ two p ++ trailer 2 n 0 s) ≡ s = length_parts ps b p 2 n 0 s lb in
      let ec : 2 * count_of (ps ++ b ++ two p ++ trailer 2 n 0 s) ≡ length ps = count_in ps b p 2 n 0 s lb (even_pairs w wide t) in
      let ep : phys_of (ps ++ b ++ two p ++ trailer 2 n 0 s) ≡ p = phys_in_lem ps b p 2 n 0 s lb in
      record {
        long = omega arith;
        version = version_of_lem (ps ++ b ++ two p) 2 n 0 s;
        size = size_of_lem (ps ++ b ++ two p) 2 n 0 s ∙ sym len;
        filled = omega arith;
        offset = offset_of_lem (ps ++ b ++ two p) 2 n 0 s;
        count = ep ∙ hc;
        up = rw own_pairs (pairs_ascend w wide t);
        numbers = ap (numbered (phy_count phys₁) 0) own_block ∙ block_numbered phys (phy_count phys₁) (omega arith);
        zones = ap (all_writable w) own_block ∙ is_zoned w phys z;
      }

  pub load_own_whole : (phys₁ permissions : List ℕ) → length permissions ≡ table_size w → Bytes t → Described w t → Zoned w phys → SameButZones phys phys₁ → phys_sized phys₁ ≡ true
      → load_whole_out w phys₁ permissions (whole_file_of w phys t) ≡ out (answer (2 ∷ [])) (phys ∷ t ∷ [])
  load_own_whole phys₁ permissions hp b d z s hs =
      let file : List ℕ = whole_file_of w phys t in
      let f = own_filled phys₁ (ap (λ (n : ℕ). n / phy_record) s.sized) z in
      let l = f.long in
      passes (first_refusal (load_whole_checks w phys₁ permissions file)) (version_of file ∷ []) (phys₁ ∷ permissions ∷ [])
      (phys_after phys₁ file ∷ loaded w (pairs_in file) ∷ [])
      (reader_passes w phys₁ permissions file hs (sized_row w permissions hp) (omega arith) (newer_passes w phys₁ file f))
      ∙ ap₂ (λ (v : ℕ) (x : List ℕ). out (answer (v ∷ [])) (x ∷ loaded w (pairs_in file) ∷ [])) f.version
      (after_newer phys₁ file f.version ∙ ap (rezoned phys₁) own_block ∙ block_restores w phys phys₁ wide z s)
      ∙ ap (λ (x : List ℕ). out (answer (2 ∷ [])) (phys ∷ x ∷ [])) (ap (loaded w) own_pairs ∙ loaded_of_records w wide t b d)
