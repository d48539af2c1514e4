-- Files of version 1 there and back: a load of a save, a save of a load, and that a table has one file.
-- Assumes nothing.
use mathlib.Core.Path.{◌≡◌, refl, sym, ap, ap₂, ◌∙◌, subst}
use mathlib.Core.Bool.{false, not}
use mathlib.Core.List.{List, [], ◌∷◌, ◌++◌}
use Prim.Native.Nat.{ℕ, suc, ◌+◌, ◌*◌, ◌/◌, ◌%◌, ◌≤◌}
use native.Mathlib.Omega.{arith}
use borrow.Author.Tests.{not-false}
use lib.ListN.{length, take, drop}
use lib.Seq.{length-take-le, take_at}
use Rattle.permit.specs.Permission.{table_size, permissions_sized, Width}
use Rattle.tables.specs.Refusals.{first_refusal, Clear}
use Rattle.tables.specs.Outcome.{answer, out}
use Rattle.tables.proofs.RefusalLaws.{clear, First, first, none, next}
use Rattle.file_pairs.specs.Pairs.{code, pairs_of, ascending, loaded}
use Rattle.file_pairs.specs.Described.{described}
use Rattle.file_pairs.proofs.Records.{Ascending, ascends, ascends_back}
use Rattle.file_trailer.specs.Trailer.{trailer, tail, version_of, count_of, offset_of, size_of, pairs_in}
use Rattle.version_1.specs.Version1.{file_of, save_checks, pairs_checks, load_checks, load_out}
use Rattle.files.specs.Promises.{Bytes, Described, ExactlyDescribed, LoadSays, LoadOfSave, SaveOfLoad, OneFile, NothingElse}
use Rattle.files.proofs.Listed.{pairs_ascend}
use Rattle.files.proofs.PairTrips.{described_is, is_described, loaded_says, loaded-described, records_of_loaded, loaded_of_records}
use Rattle.files.proofs.Ends.{length_file, version_of_lem, count_of_lem, offset_of_lem, size_of_lem, file_parts}
use Rattle.files.proofs.Answered.{answered, passes, sized_row, row_sized}

-- ---- a file of version 1 that is not refused, by either reader
pub record Agreed (w : ℕ) (file : List ℕ) : Type 0 where
  pub long : 12 ≤ length file
  pub version : version_of file ≡ 1
  pub size : size_of file ≡ length file
  pub filled : 2 * count_of file + 12 ≡ length file
  pub offset : offset_of file ≡ 0
  pub up : Ascending w 0 (pairs_in file)

clear_agreed : (w : ℕ) (file : List ℕ) → 12 ≤ length file → version_of file ≡ 1 → Clear (pairs_checks w file) → Agreed w file
clear_agreed w file l v k = record {
  long = l;
  version = v;
  size = k.0;
  filled = k.1.0;
  offset = k.1.1.0;
  up = ascends w 0 (pairs_in file) (not-false (ascending w 0 (pairs_in file)) k.1.1.1.0);
}

pub agreed : (w : ℕ) (file : List ℕ) → 12 ≤ length file → version_of file ≡ 1 → first_refusal (pairs_checks w file) ≡ 0 → Agreed w file
agreed w file l v e = clear_agreed w file l v (clear (pairs_checks w file) 0 (sym e) refl tt)

-- and no row holds of one that is so
pub agreed_passes : (w : ℕ) (file : List ℕ) → Agreed w file → First (pairs_checks w file) 0
agreed_passes w file a =
    next a.size (next a.filled (next a.offset (next (ap not (ascends_back w 0 (pairs_in file) a.up)) none)))

-- it is the file of what it loads
module _ (w : ℕ) (wide : Width w) (file : List ℕ) (a : Agreed w file) where
  pairs_length : length (pairs_in file) ≡ 2 * count_of file
  unfolding pairs_in
  pairs_length = let f = a.filled in length-take-le (2 * count_of file) file (omega arith)

  front : take (tail file) file ≡ pairs_in file
  unfolding pairs_in
  front = let f = a.filled in let e : tail file ≡ 2 * count_of file = omega arith in ap (λ (k : ℕ). take k file) e

  pub file_of_load : Bytes file → file_of w (loaded w (pairs_in file)) ≡ file
  unfolding file_of
  file_of_load b =
      let rs : List ℕ = pairs_in file in
      let f = a.filled in
      let ev : version_of file ≡ 1 = a.version in
      let es : size_of file ≡ length rs + 12 = a.size ∙ omega (arith, pairs_length) in
      let ec : count_of file ≡ length rs / 2 = omega (arith, pairs_length) in
      let eo : offset_of file ≡ 0 = a.offset in
      let parts : file ≡ rs ++ trailer (version_of file) (count_of file) (offset_of file) (size_of file) =
      file_parts file b a.long ∙ ap (λ (x : List ℕ). x ++ trailer (version_of file) (count_of file) (offset_of file) (size_of file)) front in
      ap (λ (x : List ℕ). x ++ trailer 1 (length x / 2) 0 (length x + 12)) (records_of_loaded w wide rs a.up)
      ∙ sym (parts ∙ ap₂ (λ (v o : ℕ). rs ++ trailer v (count_of file) o (size_of file)) ev eo ∙ ap₂ (λ (n s : ℕ). rs ++ trailer 1 n 0 s) ec es)

-- ---- a table's own file is one that is not refused
ascending_even : (w low : ℕ) (rs : List ℕ) → Ascending w low rs → length rs % 2 ≡ 0
ascending_even w low [] h = refl
ascending_even w low (a ∷ []) h = absurd h
ascending_even w low (a ∷ b ∷ rs) h = let r = ascending_even w (suc (code a b)) rs h.1 in omega arith

module _ (w : ℕ) (wide : Width w) (t : List ℕ) where
  pub even_pairs : 2 * (length (pairs_of w t) / 2) ≡ length (pairs_of w t)
  even_pairs = let e = ascending_even w 0 (pairs_of w t) (pairs_ascend w wide t) in omega arith

  own_pairs : pairs_in (file_of w t) ≡ pairs_of w t
  unfolding file_of pairs_in
  own_pairs =
      let ps : List ℕ = pairs_of w t in
      let n : ℕ = length ps / 2 in
      let s : ℕ = length ps + 12 in
      ap (λ (k : ℕ). take (2 * k) (ps ++ trailer 1 n 0 s)) (count_of_lem ps 1 n 0 s) ∙ take_at ps (trailer 1 n 0 s) (2 * n) (sym even_pairs)

  own_agreed : Agreed w (file_of w t)
  unfolding file_of
  own_agreed =
      let ps : List ℕ = pairs_of w t in
      let n : ℕ = length ps / 2 in
      let s : ℕ = length ps + 12 in
      let len : length (ps ++ trailer 1 n 0 s) ≡ s = length_file ps 1 n 0 s in
      let ec : count_of (ps ++ trailer 1 n 0 s) ≡ n = count_of_lem ps 1 n 0 s in
      record {
        long = omega arith;
        version = version_of_lem ps 1 n 0 s;
        size = size_of_lem ps 1 n 0 s ∙ sym len;
        filled = omega (arith, even_pairs);
        offset = offset_of_lem ps 1 n 0 s;
        up = rw own_pairs (pairs_ascend w wide t);
      }

  pub load_own : (permissions : List ℕ) → length permissions ≡ table_size w → Bytes t → Described w t
      → load_out w permissions (file_of w t) ≡ out (answer (1 ∷ [])) (t ∷ [])
  load_own permissions hp b d =
      let file : List ℕ = file_of w t in
      let a = own_agreed in
      let ev : version_of (file_of w t) ≡ 1 = a.version in
      passes (first_refusal (load_checks w permissions file)) (1 ∷ []) (permissions ∷ []) (loaded w (pairs_in file) ∷ [])
      (first (next (sized_row w permissions hp) (next a.long (next (λ q. omega arith) (next ev (agreed_passes w file a))))))
      ∙ ap (λ (x : List ℕ). out (answer (1 ∷ [])) (x ∷ [])) (ap (loaded w) own_pairs ∙ loaded_of_records w wide t b d)

-- ---- what a save takes
save_passes : (w : ℕ) (t : List ℕ) (room : ℕ) → 16400 ≤ room → Described w t → 0 ≡ first_refusal (save_checks w t room)
save_passes w t room h d = first (next (sized_row w t d.sized) (next h (next (ap not (is_described w t d)) none)))

save_described : (w : ℕ) (t : List ℕ) (room : ℕ) → first_refusal (save_checks w t room) ≡ 0 → Described w t
save_described w t room e =
    let k = clear (save_checks w t room) 0 (sym e) refl tt in
    described_is w t (row_sized w t k.0) (not-false (described w t) k.1.1.0)

pub exactly_described : ExactlyDescribed
exactly_described w t file wide h = (
  λ d. passes (first_refusal (save_checks w t (length file))) (length (file_of w t) ∷ []) (file ∷ []) ((file_of w t ++ drop (length (file_of w t)) file) ∷ [])
      (save_passes w t (length file) h d),
  λ vs bs e.
      let a =
      answered (first_refusal (save_checks w t (length file))) (length (file_of w t) ∷ []) vs (file ∷ [])
      ((file_of w t ++ drop (length (file_of w t)) file) ∷ []) bs e in
      save_described w t (length file) a.passed,
)

-- ---- there and back
pub load_of_save : LoadOfSave
load_of_save w t room file n wide b e permissions hp =
    let own : List ℕ = file_of w t in
    let a =
    answered (first_refusal (save_checks w t (length room))) (length own ∷ []) (n ∷ []) (room ∷ []) ((own ++ drop (length own) room) ∷ []) (file ∷ []) e in
    let same : length own ∷ [] ≡ n ∷ [] = a.same in
    let left : (own ++ drop (length own) room) ∷ [] ≡ file ∷ [] = a.left in
    let l : length own ≡ n = cc in
    let f : own ++ drop (length own) room ≡ file = cc in
    let taken : take n file ≡ own = ap (take n) (sym f) ∙ take_at own (drop (length own) room) n l in
    ap (load_out w permissions) taken ∙ load_own w wide t permissions hp b (save_described w t (length room) a.passed)

-- ---- what a load that answers took and left
pub record Took (w : ℕ) (permissions file : List ℕ) (bs : List (List ℕ)) : Type 0 where
  pub sized : not (permissions_sized w permissions) ≡ false
  pub is : Agreed w file
  pub left : bs ≡ loaded w (pairs_in file) ∷ []

pub took : (w : ℕ) (permissions file vs : List ℕ) (bs : List (List ℕ)) → load_out w permissions file ≡ out (answer vs) bs → Took w permissions file bs
took w permissions file vs bs e =
    let a = answered (first_refusal (load_checks w permissions file)) (1 ∷ []) vs (permissions ∷ []) (loaded w (pairs_in file) ∷ []) bs e in
    let k = clear (load_checks w permissions file) 0 (sym a.passed) refl tt in
    record { sized = k.0; is = clear_agreed w file k.1.0 k.1.1.1.0 k.1.1.1.1; left = sym a.left }

pub nothing_else : NothingElse
nothing_else w permissions file vs bs wide b e =
    let r = took w permissions file vs bs e in
    (loaded w (pairs_in file), (loaded-described w (pairs_in file) r.is.up, sym (file_of_load w wide file r.is b), r.left))

pub load_says : LoadSays
load_says w permissions file vs t e =
    let r = took w permissions file vs (t ∷ []) e in
    let q : t ∷ [] ≡ loaded w (pairs_in file) ∷ [] = r.left in
    let p : t ≡ loaded w (pairs_in file) = cc in
    rw p (loaded_says w (pairs_in file) r.is.up)

-- so a file that loads to t is as described, and t's
load_file : (w : ℕ) (permissions file vs t : List ℕ) → Width w → Bytes file → load_out w permissions file ≡ out (answer vs) (t ∷ [])
    → Described w t × (file ≡ file_of w t)
load_file w permissions file vs t wide b e =
    let r = nothing_else w permissions file vs (t ∷ []) wide b e in
    let q : t ∷ [] ≡ r.0 ∷ [] = r.1.2 in
    let p : t ≡ r.0 = cc in
    (subst (Described w) (sym p) r.1.0, r.1.1 ∙ ap (file_of w) (sym p))

pub save_of_load : SaveOfLoad
save_of_load w permissions file vs t room wide b e h =
    let r = load_file w permissions file vs t wide b e in
    (exactly_described w t room wide h).0 r.0
    ∙ ap (λ (x : List ℕ). out (answer (length x ∷ [])) ((x ++ drop (length x) room) ∷ [])) (sym r.1)

pub one_file : OneFile
one_file w permissions permissions₁ file file₁ vs vs₁ t wide b b₁ e e₁ =
    (load_file w permissions file vs t wide b e).1 ∙ sym (load_file w permissions₁ file₁ vs₁ t wide b₁ e₁).1
