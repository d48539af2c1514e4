-- The block of every phy there and back: what is written of it is in its records, and the block of those is the one read.
-- Assumes nothing.
use mathlib.Core.Path.{◌≡◌, refl, sym, ap, ap₂, ◌∙◌, subst}
use mathlib.Core.Bool.{Bool, true, false, not, ◌&&◌, ◌||◌, true≢false}
use mathlib.Core.List.{List, [], ◌∷◌}
use Prim.Native.Nat.{ℕ, zero, suc, ◌+◌, ◌*◌, ◌/◌, ◌%◌, ◌≤◌, ◌<◌}
use native.Mathlib.Decide.{dec_lt}
use native.Mathlib.Omega.{arith}
use borrow.Author.Tests.{lt-ltb, ltb-true, le-leb, leb-true, eqb-true, eq-eqb}
use lib.Dec.{eqb, leb, ltb}
use lib.ListN.{length, get_or}
use lib.Seq.{ext_get_or}
use Rattle.wire.specs.Runs.{texts}
use Rattle.wire.proofs.RunLaws.{every_at, every_all}
use Rattle.permit.specs.Permission.{groups, Width}
use Rattle.tables.specs.Phys.{phy_record, phy_count, phys_sized, phy_byte, zoned}
use Rattle.tables.proofs.PhyLaws.{length-zoned}
use Rattle.tables.proofs.ArrivalLaws.{both, phys_records}
use Rattle.phy_zone.specs.PhyZone.{sound}
use Rattle.phy_zone.proofs.PhyZoneLaws.{zoned_keeps, zoned-first, zoned-group}
use Rattle.file_phys.specs.Block.{phy_entry, block_of, numbered, writable, entry_writable, all_writable, rezoned}
use Rattle.file_phys.proofs.BlockLaws.{block_length, block_count, block_first, block_group}
use Rattle.files.specs.Promises.{Zoned, SameButZones}

-- ---- two bytes that 93h could have written, as plain facts
either_true : (x y : Bool) → (not x || y) ≡ true → x ≡ true → y ≡ true
either_true true y e h = e
either_true false y e h = absurd (true≢false (sym h))

true_either : (x y : Bool) → (x ≡ true → y ≡ true) → (not x || y) ≡ true
true_either true y h = h refl
true_either false y h = refl

writable_is : (w x y : ℕ) → writable w x y ≡ true → (x < 32) × (y < groups w) × (eqb (x / 16 % 2) 1 ≡ true → y ≡ 1)
unfolding writable sound
writable_is w x y e =
    let p = both (ltb x 32) (ltb y (groups w) && (not (eqb (x / 16 % 2) 1) || eqb y 1)) e in
    let q = both (ltb y (groups w)) (not (eqb (x / 16 % 2) 1) || eqb y 1) p.1 in
    (ltb-true x 32 p.0, ltb-true y (groups w) q.0, λ h. eqb-true y 1 (either_true (eqb (x / 16 % 2) 1) (eqb y 1) q.1 h))

is_writable : (w x y : ℕ) → x < 32 → y < groups w → (eqb (x / 16 % 2) 1 ≡ true → y ≡ 1) → writable w x y ≡ true
unfolding writable sound
is_writable w x y h g t = rw (lt-ltb x 32 h, lt-ltb y (groups w) g) (true_either (eqb (x / 16 % 2) 1) (eqb y 1) (λ k. eq-eqb y 1 (t k)))

-- of every entry of a block
entry_is : (w : ℕ) (block : List ℕ) (i : ℕ) → all_writable w block ≡ true → i < length block / 3
    → writable w (get_or block (3 * i + 1) 0) (get_or block (3 * i + 2) 0) ≡ true
unfolding all_writable entry_writable
entry_is w block i e h = every_at (entry_writable w block) 0 (length block / 3) i (omega arith) (omega arith) e

-- a table as long as one that is of whole records is so too
pub same_sized : (phys phys₁ : List ℕ) → length phys ≡ length phys₁ → phys_sized phys ≡ true → phys_sized phys₁ ≡ true
unfolding phys_sized
same_sized phys phys₁ e s = rw (← e) s

-- ---- "one phy table that 93h could have written": by the test and by plain facts
module _ (w : ℕ) (phys : List ℕ) where
  entry_at : all_writable w (block_of phys) ≡ true → (i : ℕ) → i < phy_count phys → writable w (phy_byte phys i 0) (phy_byte phys i 1) ≡ true
  entry_at e i h =
      ap₂ (writable w) (sym (block_first phys i h)) (sym (block_group phys i h)) ∙ entry_is w (block_of phys) i e (omega (arith, block_count phys))

  pub zoned_from : phys_sized phys ≡ true → ((i : ℕ) → i < phy_count phys → writable w (phy_byte phys i 0) (phy_byte phys i 1) ≡ true) → Zoned w phys
  zoned_from s e = record {
    sized = s;
    unreserved = λ i h. (writable_is w (phy_byte phys i 0) (phy_byte phys i 1) (e i h)).0;
    grouped = λ i h. (writable_is w (phy_byte phys i 0) (phy_byte phys i 1) (e i h)).1;
    taking = λ i h t. (writable_is w (phy_byte phys i 0) (phy_byte phys i 1) (e i h)).2 t;
  }

  pub zoned_at : Zoned w phys → (i : ℕ) → i < phy_count phys → writable w (phy_byte phys i 0) (phy_byte phys i 1) ≡ true
  zoned_at z i h = is_writable w (phy_byte phys i 0) (phy_byte phys i 1) (z.unreserved i h) (z.grouped i h) (z.taking i h)

  pub zoned_is : phys_sized phys ≡ true → all_writable w (block_of phys) ≡ true → Zoned w phys
  zoned_is s e = zoned_from s (entry_at e)

  pub is_zoned : Zoned w phys → all_writable w (block_of phys) ≡ true
  unfolding all_writable entry_writable
  is_zoned z = every_all (entry_writable w (block_of phys)) 0 (length (block_of phys) / 3) (λ i l u. at i (omega (arith, block_count phys)))
    where
      at : (i : ℕ) → i < phy_count phys → writable w (get_or (block_of phys) (3 * i + 1) 0) (get_or (block_of phys) (3 * i + 2) 0) ≡ true
      at i h =
          ap₂ (writable w) (block_first phys i h) (block_group phys i h) ∙ zoned_at z i h

-- ---- a block of as many entries as there are phys, in range and ascending, has each phy in its place
abbrev Exact : ℕ → List ℕ → Type 0
Exact low [] = Unit
Exact low (i ∷ []) = ⊥
Exact low (i ∷ x ∷ []) = ⊥
Exact low (i ∷ x ∷ y ∷ rest) = ((i ≡ low) × (x < 32) × (y < 128)) × Exact (suc low) rest

numbers : (count low i x y : ℕ) (rest : List ℕ) → numbered count low (i ∷ x ∷ y ∷ rest) ≡ true → (low ≤ i) × (i < count) × (numbered count (suc i) rest ≡ true)
unfolding numbered
numbers count low i x y rest e =
    let p = both (leb low i && ltb i count) (numbered count (suc i) rest) e in
    let q = both (leb low i) (ltb i count) p.0 in
    (leb-true low i q.0, ltb-true i count q.1, p.1)

-- from `low` on there is room for all of them
room : (count low n : ℕ) (b : List ℕ) → length b ≡ 3 * n → low ≤ count → numbered count low b ≡ true → low + n ≤ count
room count low n [] l h e = omega arith
room count low n (i ∷ []) l h e = absurd (omega arith)
room count low n (i ∷ x ∷ []) l h e = absurd (omega arith)
room count low zero (i ∷ x ∷ y ∷ rest) l h e = absurd (omega arith)
room count low (suc n) (i ∷ x ∷ y ∷ rest) l h e =
    let p = numbers count low i x y rest e in
    let a = p.0 in
    let r = room count (suc i) n rest (omega arith) p.1 p.2 in
    omega arith

-- and its bytes have no reserved bit
abbrev Small : ℕ → List ℕ → Type 0
Small n b = (i : ℕ) → i < n → (get_or b (3 * i + 1) 0 < 32) × (get_or b (3 * i + 2) 0 < 128)

small_rest : (n i x y : ℕ) (rest : List ℕ) → Small (suc n) (i ∷ x ∷ y ∷ rest) → Small n rest
small_rest n i x y rest s j h =
    let p : 3 * suc j + 1 ≡ suc (suc (suc (3 * j + 1))) = omega arith in
    let q : 3 * suc j + 2 ≡ suc (suc (suc (3 * j + 2))) = omega arith in
    let k = s (suc j) (omega arith) in
    (subst (λ (m : ℕ). get_or (i ∷ x ∷ y ∷ rest) m 0 < 32) p k.0, subst (λ (m : ℕ). get_or (i ∷ x ∷ y ∷ rest) m 0 < 128) q k.1)

exact : (count low n : ℕ) (b : List ℕ) → length b ≡ 3 * n → low + n ≡ count → numbered count low b ≡ true → Small n b → Exact low b
exact count low n [] l h e s = tt
exact count low n (i ∷ []) l h e s = absurd (omega arith)
exact count low n (i ∷ x ∷ []) l h e s = absurd (omega arith)
exact count low zero (i ∷ x ∷ y ∷ rest) l h e s = absurd (omega arith)
exact count low (suc n) (i ∷ x ∷ y ∷ rest) l h e s =
    let p = numbers count low i x y rest e in
    let a = p.0 in
    let r = room count (suc i) n rest (omega arith) p.1 p.2 in
    let q : i ≡ low = omega arith in
    let later : numbered count (suc low) rest ≡ true = subst (λ (m : ℕ). numbered count (suc m) rest ≡ true) q p.2 in
    let z = s 0 (omega arith) in
    ((q, z.0, z.1), exact count (suc low) n rest (omega arith) (omega arith) later (small_rest n i x y rest s))

-- ---- what the written records hold
pub length-rezoned : (phys b : List ℕ) → length (rezoned phys b) ≡ length phys
unfolding rezoned
length-rezoned phys [] = refl
length-rezoned phys (i ∷ []) = refl
length-rezoned phys (i ∷ x ∷ []) = refl
length-rezoned phys (i ∷ x ∷ y ∷ rest) = length-rezoned (zoned phys i x y) rest ∙ length-zoned phys i x y

-- bytes from 2 on stay
pub rezoned_keeps : (phys b : List ℕ) (j m : ℕ) → 2 ≤ m → m < phy_record → phy_byte (rezoned phys b) j m ≡ phy_byte phys j m
unfolding rezoned
rezoned_keeps phys [] j m h u = refl
rezoned_keeps phys (i ∷ []) j m h u = refl
rezoned_keeps phys (i ∷ x ∷ []) j m h u = refl
rezoned_keeps phys (i ∷ x ∷ y ∷ rest) j m h u = rezoned_keeps (zoned phys i x y) rest j m h u ∙ zoned_keeps phys i x y j m u (λ e. h)

rezoned-before : (phys b : List ℕ) (low j m : ℕ) → Exact low b → j < low → m < phy_record → phy_byte (rezoned phys b) j m ≡ phy_byte phys j m
unfolding rezoned
rezoned-before phys [] low j m h l u = refl
rezoned-before phys (i ∷ []) low j m h l u = absurd h
rezoned-before phys (i ∷ x ∷ []) low j m h l u = absurd h
rezoned-before phys (i ∷ x ∷ y ∷ rest) low j m h l u =
    let q = h.0.0 in
    rezoned-before (zoned phys i x y) rest (suc low) j m h.1 (omega arith) u
    ∙ zoned_keeps phys i x y j m u (λ e. omega arith)

-- bytes 0 and 1 are the block's
entries-back : (phys b : List ℕ) (low n : ℕ) → Exact low b → length b ≡ 3 * n → low + n ≤ phy_count phys → texts (phy_entry (rezoned phys b)) low n ≡ b
unfolding rezoned texts
entries-back phys [] low zero h l u = refl
entries-back phys [] low (suc n) h l u = absurd (omega arith)
entries-back phys (i ∷ []) low n h l u = absurd h
entries-back phys (i ∷ x ∷ []) low n h l u = absurd h
entries-back phys (i ∷ x ∷ y ∷ rest) low zero h l u = absurd (omega arith)
entries-back phys (i ∷ x ∷ y ∷ rest) low (suc n) h l u =
    let k = h.0 in
    let q : i ≡ low = k.0 in
    let x0 : x % 32 ≡ x = omega arith in
    let y0 : y % 128 ≡ y = omega arith in
    let t = zoned phys i x y in
    let here : low < phy_count phys = omega arith in
    let e0 : phy_byte (rezoned t rest) low 0 ≡ x =
    rezoned-before t rest (suc low) low 0 h.1 (omega arith) (omega arith)
    ∙ ap (λ (j : ℕ). phy_byte (zoned phys j x y) low 0) q ∙ zoned-first phys low x y here ∙ x0 in
    let e1 : phy_byte (rezoned t rest) low 1 ≡ y =
    rezoned-before t rest (suc low) low 1 h.1 (omega arith) (omega arith)
    ∙ ap (λ (j : ℕ). phy_byte (zoned phys j x y) low 1) q ∙ zoned-group phys low x y here ∙ y0 in
    let s : length t ≡ length phys = length-zoned phys i x y in
    let more : texts (phy_entry (rezoned t rest)) (suc low) n ≡ rest = entries-back t rest (suc low) n h.1 (omega arith) (omega arith) in
    rw (e0, e1, more, q)

-- the block of the records that a block was written to is that block
module _ (w : ℕ) (wide : Width w) (phys b : List ℕ) (l : length b ≡ 3 * phy_count phys) (e : numbered (phy_count phys) 0 b ≡ true) (z : all_writable w b ≡ true) where
  small : Small (phy_count phys) b
  small i h =
      let g = wide.most in
      let k = writable_is w (get_or b (3 * i + 1) 0) (get_or b (3 * i + 2) 0) (entry_is w b i z (omega arith)) in
      let y = k.1 in
      (k.0, omega arith)

  pub block_back : block_of (rezoned phys b) ≡ b
  unfolding block_of
  block_back =
      let x : Exact 0 b = exact (phy_count phys) 0 (phy_count phys) b l (omega arith) e small in
      ap (λ (m : ℕ). texts (phy_entry (rezoned phys b)) 0 (m / phy_record)) (length-rezoned phys b) ∙ entries-back phys b 0 (phy_count phys) x l (omega arith)

-- ---- a table's own block
entries-numbered : (phys : List ℕ) (count low n : ℕ) → low + n ≤ count → numbered count low (texts (phy_entry phys) low n) ≡ true
unfolding numbered texts
entries-numbered phys count low zero h = refl
entries-numbered phys count low (suc n) h =
    let l : low < count = omega arith in
    let r : low ≤ low = omega arith in
    rw (le-leb low low r, lt-ltb low count l) (entries-numbered phys count (suc low) n (omega arith))

pub block_numbered : (phys : List ℕ) (count : ℕ) → phy_count phys ≤ count → numbered count 0 (block_of phys) ≡ true
unfolding block_of
block_numbered phys count h = entries-numbered phys count 0 (phy_count phys) (omega arith)

-- written over a table that is the same but for bytes 0 and 1 it gives the table that it is of
pub block_restores : (w : ℕ) (phys phys₁ : List ℕ) → Width w → Zoned w phys → SameButZones phys phys₁ → rezoned phys₁ (block_of phys) ≡ phys
block_restores w phys phys₁ wide z s =
    ext_get_or 0 new phys (length-rezoned phys₁ (block_of phys) ∙ sym s.sized) (λ j h. at j h (dec_lt (j % phy_record) 2))
  where
    new : List ℕ
    new = rezoned phys₁ (block_of phys)

    counts : phy_count phys ≡ phy_count phys₁
    counts = ap (λ (n : ℕ). n / phy_record) s.sized

    same : block_of (rezoned phys₁ (block_of phys)) ≡ block_of phys
    same =
        block_back w wide phys₁ (block_of phys) (block_length phys ∙ ap (λ (n : ℕ). 3 * n) counts)
        (block_numbered phys (phy_count phys₁) (omega (arith, counts))) (is_zoned w phys z)

    there : (i : ℕ) → i < phy_count phys → i < phy_count (rezoned phys₁ (block_of phys))
    there i h = subst (λ (n : ℕ). i < n / phy_record) (s.sized ∙ sym (length-rezoned phys₁ (block_of phys))) h

    byte : (i k : ℕ) → i < phy_count phys → k < 2 → phy_byte (rezoned phys₁ (block_of phys)) i k ≡ phy_byte phys i k
    byte i zero h l =
        sym (block_first (rezoned phys₁ (block_of phys)) i (there i h)) ∙ ap (λ (b : List ℕ). get_or b (3 * i + 1) 0) same ∙ block_first phys i h
    byte i (suc zero) h l =
        sym (block_group (rezoned phys₁ (block_of phys)) i (there i h)) ∙ ap (λ (b : List ℕ). get_or b (3 * i + 2) 0) same ∙ block_group phys i h
    byte i (suc (suc k)) h l = absurd (omega arith)

    at : (j : ℕ) → j < length (rezoned phys₁ (block_of phys)) → Dec (j % phy_record < 2) → get_or (rezoned phys₁ (block_of phys)) j 0 ≡ get_or phys j 0
    at j h d = subst (λ (m : ℕ). get_or (rezoned phys₁ (block_of phys)) m 0 ≡ get_or phys m 0) seat (go d)
      where
        seat : phy_record * (j / phy_record) + j % phy_record ≡ j
        seat = omega arith

        in_table : j / phy_record < phy_count phys
        in_table =
            let r = (phys_records phys z.sized).0 in
            let l : length (rezoned phys₁ (block_of phys)) ≡ length phys = length-rezoned phys₁ (block_of phys) ∙ sym s.sized in
            omega arith

        go : Dec (j % phy_record < 2) → phy_byte (rezoned phys₁ (block_of phys)) (j / phy_record) (j % phy_record) ≡ phy_byte phys (j / phy_record) (j % phy_record)
        go (yes l) = byte (j / phy_record) (j % phy_record) in_table l
        go (no n) =
            rezoned_keeps phys₁ (block_of phys) (j / phy_record) (j % phy_record) (omega arith) (omega arith)
            ∙ sym (s.others (j / phy_record) (j % phy_record) in_table (omega arith) (omega arith))
