-- What is promised of files of version 2, there and back, and of the version 1 files that its reader takes.
-- Assumes nothing.
use mathlib.Core.Path.{◌≡◌, refl, sym, ap, ap₂, ◌∙◌, subst}
use mathlib.Core.Bool.{true, not}
use mathlib.Core.List.{List, [], ◌∷◌, ◌++◌}
use mathlib.Core.Logic.{◌⊎◌, inl, inr}
use Prim.Native.Nat.{ℕ, ◌≤◌}
use native.Mathlib.Omega.{arith}
use borrow.Author.Tests.{not-false}
use lib.ListN.{length, take, drop}
use lib.Seq.{take_at}
use Rattle.permit.specs.Permission.{Width}
use Rattle.permit.specs.History.{Says}
use Rattle.tables.specs.Refusals.{first_refusal}
use Rattle.tables.specs.Outcome.{answer, out}
use Rattle.tables.specs.Phys.{phys_sized}
use Rattle.tables.proofs.RefusalLaws.{clear, first, none, next}
use Rattle.file_pairs.specs.Pairs.{orders_of, loaded}
use Rattle.file_pairs.specs.Described.{described}
use Rattle.file_phys.specs.Block.{block_of, all_writable, rezoned}
use Rattle.file_trailer.specs.Trailer.{version_of, pairs_in}
use Rattle.version_2.specs.Version2.{whole_file_of, save_whole_checks, block_in, load_whole_checks, phys_after, load_whole_out}
use Rattle.files.specs.Promises.{Bytes, Described, Zoned, ExactlyDescribed2, LoadSays2, LoadOfSave2, SaveOfLoad2, OneFile2, Whole, Pairs, NothingElse2, OlderFiles}
use Rattle.files.proofs.PairTrips.{described_is, is_described, loaded_says, loaded-described}
use Rattle.files.proofs.Answered.{Answered, answered, passes, sized_row, row_sized}
use Rattle.files.proofs.FileTrips.{Agreed, file_of_load, took}
use Rattle.files.proofs.BlockTrips.{same_sized, zoned_is, is_zoned}
use Rattle.files.proofs.WholeFiles.{Filled, reader_passes, older_passes, reader_sized, reader_took, after_older, after_newer, whole_file_of_load, zoned-loaded, same-loaded, load_own_whole}

-- ---- what a save takes
whole_save_passes : (w : ℕ) (phys t : List ℕ) (room : ℕ) → 16400 ≤ room → Described w t → Zoned w phys → 0 ≡ first_refusal (save_whole_checks w phys t room)
whole_save_passes w phys t room h d z =
    first
    (next (ap not z.sized) (next (sized_row w t d.sized) (next h (next (ap not (is_described w t d)) (next (ap not (is_zoned w phys z)) none)))))

whole_save_described : (w : ℕ) (phys t : List ℕ) (room : ℕ) → first_refusal (save_whole_checks w phys t room) ≡ 0 → Described w t × Zoned w phys
whole_save_described w phys t room e =
    let k = clear (save_whole_checks w phys t room) 0 (sym e) refl tt in (
      described_is w t (row_sized w t k.1.0) (not-false (described w t) k.1.1.1.0),
      zoned_is w phys (not-false (phys_sized phys) k.0) (not-false (all_writable w (block_of phys)) k.1.1.1.1.0),
    )

pub exactly_described_2 : ExactlyDescribed2
exactly_described_2 w phys t file wide h = (
  λ d z. passes (first_refusal (save_whole_checks w phys t (length file))) (length (whole_file_of w phys t) ∷ []) (file ∷ [])
      ((whole_file_of w phys t ++ drop (length (whole_file_of w phys t)) file) ∷ []) (whole_save_passes w phys t (length file) h d z),
  λ vs bs e.
      let a =
      answered (first_refusal (save_whole_checks w phys t (length file))) (length (whole_file_of w phys t) ∷ []) vs (file ∷ [])
      ((whole_file_of w phys t ++ drop (length (whole_file_of w phys t)) file) ∷ []) bs e in
      whole_save_described w phys t (length file) a.passed,
)

-- ---- there and back
pub load_of_save_2 : LoadOfSave2
load_of_save_2 w phys t room file n wide b e phys₁ permissions hp s =
    let own : List ℕ = whole_file_of w phys t in
    let a =
    answered (first_refusal (save_whole_checks w phys t (length room))) (length own ∷ []) (n ∷ []) (room ∷ []) ((own ++ drop (length own) room) ∷ []) (file ∷ []) e in
    let same : length own ∷ [] ≡ n ∷ [] = a.same in
    let left : (own ++ drop (length own) room) ∷ [] ≡ file ∷ [] = a.left in
    let l : length own ≡ n = cc in
    let f : own ++ drop (length own) room ≡ file = cc in
    let taken : take n file ≡ own = ap (take n) (sym f) ∙ take_at own (drop (length own) room) n l in
    let k = whole_save_described w phys t (length room) a.passed in
    ap (load_whole_out w phys₁ permissions) taken
    ∙ load_own_whole w wide phys t phys₁ permissions hp b k.0 k.1 s (same_sized phys phys₁ s.sized k.1.sized)

-- ---- what a load that answers leaves, of either version
record TookOne (w : ℕ) (phys file vs : List ℕ) (bs : List (List ℕ)) : Type 0 where
  pub is : Agreed w file
  pub version : vs ≡ 1 ∷ []
  pub left : bs ≡ phys ∷ loaded w (pairs_in file) ∷ []

record TookTwo (w : ℕ) (phys file vs : List ℕ) (bs : List (List ℕ)) : Type 0 where
  pub is : Filled w phys file
  pub sized : phys_sized phys ≡ true
  pub version : vs ≡ 2 ∷ []
  pub left : bs ≡ rezoned phys (block_in file) ∷ loaded w (pairs_in file) ∷ []

took_either : (w : ℕ) (phys permissions file vs : List ℕ) (bs : List (List ℕ)) → load_whole_out w phys permissions file ≡ out (answer vs) bs
    → TookOne w phys file vs bs ⊎ TookTwo w phys file vs bs
took_either w phys permissions file vs bs e = go (reader_took w phys permissions file a.passed)
  where
    a : Answered (first_refusal (load_whole_checks w phys permissions file)) (version_of file ∷ []) vs (phys_after phys file ∷ loaded w (pairs_in file) ∷ []) bs
    a =
        answered (first_refusal (load_whole_checks w phys permissions file)) (version_of file ∷ []) vs (phys ∷ permissions ∷ [])
        (phys_after phys file ∷ loaded w (pairs_in file) ∷ []) bs e

    go : Agreed w file ⊎ Filled w phys file → TookOne w phys file vs bs ⊎ TookTwo w phys file vs bs
    go (inl f) = inl (record {
      is = f;
      version = sym a.same ∙ ap (λ (v : ℕ). v ∷ []) f.version;
      left = sym a.left ∙ ap (λ (x : List ℕ). x ∷ loaded w (pairs_in file) ∷ []) (after_older phys file f.version);
    })
    go (inr f) = inr (record {
      is = f;
      sized = (reader_sized w phys permissions file a.passed).0;
      version = sym a.same ∙ ap (λ (v : ℕ). v ∷ []) f.version;
      left = sym a.left ∙ ap (λ (x : List ℕ). x ∷ loaded w (pairs_in file) ∷ []) (after_newer phys file f.version);
    })

pub nothing_else_2 : NothingElse2
nothing_else_2 w phys permissions file vs bs wide b e = go (took_either w phys permissions file vs bs e)
  where
    go : TookOne w phys file vs bs ⊎ TookTwo w phys file vs bs → ((vs ≡ 1 ∷ []) × Pairs w phys file bs) ⊎ ((vs ≡ 2 ∷ []) × Whole w phys file bs)
    go (inl k) = inl (
      k.version,
      record {
        t = loaded w (pairs_in file);
        described = loaded-described w (pairs_in file) k.is.up;
        file_is = sym (file_of_load w wide file k.is b);
        buffers = k.left;
      },
    )
    go (inr k) = inr (
      k.version,
      record {
        phys₁ = rezoned phys (block_in file);
        t = loaded w (pairs_in file);
        described = loaded-described w (pairs_in file) k.is.up;
        zoned = zoned-loaded w wide phys file k.is k.sized;
        same = same-loaded w wide phys file k.is;
        file_is = sym (whole_file_of_load w wide phys file k.is b);
        buffers = k.left;
      },
    )

pub load_says_2 : LoadSays2
load_says_2 w phys permissions file vs phys₁ t e = go (took_either w phys permissions file vs (phys₁ ∷ t ∷ []) e)
  where
    go : TookOne w phys file vs (phys₁ ∷ t ∷ []) ⊎ TookTwo w phys file vs (phys₁ ∷ t ∷ []) → Says w t (orders_of (pairs_in file))
    go (inl k) =
        let q : phys₁ ∷ t ∷ [] ≡ phys ∷ loaded w (pairs_in file) ∷ [] = k.left in
        let p : t ≡ loaded w (pairs_in file) = cc in
        rw p (loaded_says w (pairs_in file) k.is.up)
    go (inr k) =
        let q : phys₁ ∷ t ∷ [] ≡ rezoned phys (block_in file) ∷ loaded w (pairs_in file) ∷ [] = k.left in
        let p : t ≡ loaded w (pairs_in file) = cc in
        rw p (loaded_says w (pairs_in file) k.is.up)

-- so a file that loads as version 2 to two tables is as described, and theirs
load_file : (w : ℕ) (phys permissions file phys₁ t : List ℕ) → Width w → Bytes file → load_whole_out w phys permissions file ≡ out (answer (2 ∷ [])) (phys₁ ∷ t ∷ [])
    → Described w t × Zoned w phys₁ × (file ≡ whole_file_of w phys₁ t)
load_file w phys permissions file phys₁ t wide b e = go (nothing_else_2 w phys permissions file (2 ∷ []) (phys₁ ∷ t ∷ []) wide b e)
  where
    go : (◌≡◌ {A = List ℕ} (2 ∷ []) (1 ∷ []) × Pairs w phys file (phys₁ ∷ t ∷ [])) ⊎ (◌≡◌ {A = List ℕ} (2 ∷ []) (2 ∷ []) × Whole w phys file (phys₁ ∷ t ∷ []))
        → Described w t × Zoned w phys₁ × (file ≡ whole_file_of w phys₁ t)
    go (inl k) = let q : ◌≡◌ {A = List ℕ} (2 ∷ []) (1 ∷ []) = k.0 in absurd (let z : ◌≡◌ {A = ℕ} 2 1 = cc in omega arith)
    go (inr k) =
        let r = k.1 in
        let q : phys₁ ∷ t ∷ [] ≡ r.phys₁ ∷ r.t ∷ [] = r.buffers in
        let x : phys₁ ≡ r.phys₁ = cc in
        let y : t ≡ r.t = cc in
        (subst (Described w) (sym y) r.described, subst (Zoned w) (sym x) r.zoned, r.file_is ∙ ap₂ (whole_file_of w) (sym x) (sym y))

pub save_of_load_2 : SaveOfLoad2
save_of_load_2 w phys permissions file phys₁ t room wide b e h =
    let r = load_file w phys permissions file phys₁ t wide b e in
    (exactly_described_2 w phys₁ t room wide h).0 r.0 r.1
    ∙ ap (λ (x : List ℕ). out (answer (length x ∷ [])) ((x ++ drop (length x) room) ∷ [])) (sym r.2)

pub one_file_2 : OneFile2
one_file_2 w phys phys₁ permissions permissions₁ file file₁ phys₂ t wide b b₁ e e₁ =
    (load_file w phys permissions file phys₂ t wide b e).2 ∙ sym (load_file w phys₁ permissions₁ file₁ phys₂ t wide b₁ e₁).2

-- ---- the files of version 1
pub older_files : OlderFiles
older_files w phys permissions file vs t s e =
    let r = took w permissions file vs (t ∷ []) e in
    let q : t ∷ [] ≡ loaded w (pairs_in file) ∷ [] = r.left in
    let p : t ≡ loaded w (pairs_in file) = cc in
    let v = r.is.version in
    passes (first_refusal (load_whole_checks w phys permissions file)) (version_of file ∷ []) (phys ∷ permissions ∷ [])
    (phys_after phys file ∷ loaded w (pairs_in file) ∷ [])
    (reader_passes w phys permissions file s r.sized r.is.long (older_passes w phys file r.is))
    ∙ ap₂ (λ (m : ℕ) (x : List ℕ). out (answer (m ∷ [])) (x ∷ loaded w (pairs_in file) ∷ [])) v (after_older phys file v)
    ∙ ap (λ (x : List ℕ). out (answer (1 ∷ [])) (phys ∷ x ∷ [])) (sym p)
