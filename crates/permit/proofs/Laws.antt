-- The laws of the permission table, for any row width: what a write of one bit changes, that it changes nothing else, and what stands there at start-up.
-- Assumes nothing.
use mathlib.Core.Path.{◌≡◌, refl, sym, ap, ap₂, ◌∙◌, subst, subst₂}
use mathlib.Core.Bool.{Bool, true, false, cond, ◌&&◌, ◌||◌, and_comm, or_comm}
use mathlib.Core.List.{List}
use mathlib.Core.Logic.{◌⊎◌, inl, inr, ⊎_elim}
use Prim.Native.Nat.{ℕ, zero, suc, ◌+◌, ◌-◌, ◌*◌, ◌/◌, ◌%◌, ◌^◌, ◌≤◌, ◌<◌}
use native.Mathlib.Nat.{zero-add, zero-div, mod-lt, mul-le-mul, div-add-mod', div-lt_iff_lt-mul}
use native.Mathlib.Decide.{dec_lt, ℕ_discrete}
use native.Mathlib.Omega.{arith}
use borrow.Author.Tests.{eq-eqb, ne_eqb, eqb-true}
use lib.Dec.{eqb}
use lib.ListN.{length, get_or, set, length-set}
use lib.Arith.{digits_lt, digits_div, digits_mod}
use lib.Seq.{get_or-set_same, get_or-set_other, set_out, ext_get_or}
use Rattle.wire.specs.Bits.{bit, set_bit}
use Rattle.wire.proofs.BitLaws.{each8, eqb_num, bit-same, bit_other, bit_fits}
use Rattle.wire.proofs.Loops.{length-tab, get_or-tab}
use Rattle.permit.specs.Permission.{groups, table_size, permissions_sized, place, P, set_P, set_both, start_byte, start_table, Width, Table}
use Rattle.permit.specs.History.{names}
use Rattle.permit.specs.Masks.{Masked}
use Rattle.permit.proofs.BitOps.{bits_ext, bit_ext}

-- ---- places
-- a row's byte is within the row
in_row : (w j : ℕ) → 0 < w → w - 1 - j / 8 < w
in_row w j h = omega arith

pub place_lt : (w a b : ℕ) → a < groups w → place w a b < table_size w
unfolding place
place_lt w a b h = digits_lt h (in_row w b (omega arith))

-- a row's bytes are within the table, which is never larger than document 01's
pub row_ends : (w a : ℕ) → 0 < w → a < groups w → a * w + w ≤ table_size w
row_ends w a hw h =
    let k : w - 1 < w = omega arith in
    omega (arith, digits_lt h k)

-- rows 0 and 1 are there
pub two-rows : (w : ℕ) → 0 < w → w + w ≤ table_size w
two-rows w h = omega (arith, row_ends w 1 h (omega arith))

pub row_small : (w a : ℕ) → w ≤ 16 → a < groups w → a * w ≤ 2048
row_small w a hw h =
    let l : a ≤ 128 = omega arith in
    mul-le-mul l hw

pub size_small : (w : ℕ) → w ≤ 16 → table_size w ≤ 2048
size_small w h =
    let l : 8 * w ≤ 128 = omega arith in
    mul-le-mul l h

-- a table whose size was asked for
pub table_sized : (w : ℕ) (t : List ℕ) → Width w → permissions_sized w t ≡ true → Table w t
table_sized w t h e = record { some = h.some; most = h.most; sized = eqb-true _ _ e }

pub place-div : (w a b : ℕ) → 0 < w → place w a b / w ≡ a
unfolding place
place-div w a b h = digits_div a (in_row w b h)

pub place-mod : (w a b : ℕ) → 0 < w → place w a b % w ≡ w - 1 - b / 8
unfolding place
place-mod w a b h = digits_mod a (in_row w b h)

-- two groups that share a byte are of one row, and of one group where they share a bit
pub place_row : (w a b c d : ℕ) → b < groups w → place w c d ≡ place w a b → c ≡ a
place_row w a b c d hb e =
    let h : 0 < w = omega arith in
    sym (place-div w c d h) ∙ ap (λ (i : ℕ). i / w) e ∙ place-div w a b h

pub place-bit : (w a b c d : ℕ) → b < groups w → d < groups w → place w c d ≡ place w a b → d % 8 ≡ b % 8 → d ≡ b
place-bit w a b c d hb hd e f =
    let h : 0 < w = omega arith in
    let q : w - 1 - d / 8 ≡ w - 1 - b / 8 = sym (place-mod w c d h) ∙ ap (λ (i : ℕ). i % w) e ∙ place-mod w a b h in
    omega arith

-- ---- one bit written
pub length-set_P : (w : ℕ) (t : List ℕ) (a b : ℕ) (v : Bool) → length (set_P w t a b v) ≡ length t
unfolding set_P
length-set_P w t a b v = length-set t (place w a b) _

-- as the code writes it, by a mask
pub set_masked : (w : ℕ) (t : List ℕ) (a b i m x : ℕ) (v : Bool) → i ≡ place w a b → m ≡ 2 ^ (b % 8) → Masked (get_or t i 0) m v x
    → set t i x ≡ set_P w t a b v
unfolding set_P
set_masked w t a b i m x v ei e h = rw (h (b % 8) (omega arith) e, ei)

pub P-same : (w : ℕ) (t : List ℕ) (a b : ℕ) (v : Bool) → length t ≡ table_size w → a < groups w → P w (set_P w t a b v) a b ≡ v
unfolding P set_P
P-same w t a b v hl ha =
    ap (λ (x : ℕ). eqb (bit x (b % 8)) 1) (get_or-set_same t (place w a b) _ 0 (omega (arith, place_lt w a b ha)))
    ∙ ap (λ (n : ℕ). eqb n 1) (bit-same (get_or t (place w a b) 0) (b % 8) v)
    ∙ eqb_num v

-- what is read at i after a store there is what was stored, or, past the end, nothing was stored
at_set : (t : List ℕ) (i x : ℕ) → (get_or (set t i x) i 0 ≡ x) ⊎ (set t i x ≡ t)
at_set t i x = go (dec_lt i (length t))
  where
    go : Dec (i < length t) → (get_or (set t i x) i 0 ≡ x) ⊎ (set t i x ≡ t)
    go (yes h) = inl (get_or-set_same t i x 0 h)
    go (no h) = inr (set_out t i x (omega arith))

pub P_other : (w : ℕ) (t : List ℕ) (a b c d : ℕ) (v : Bool) → b < groups w → d < groups w → (c ≡ a → d ≡ b → ⊥)
    → P w (set_P w t a b v) c d ≡ P w t c d
unfolding P set_P
P_other w t a b c d v hb hd ne = go (ℕ_discrete (place w c d) (place w a b))
  where
    new : ℕ
    new = set_bit (get_or t (place w a b) 0) (b % 8) v

    go : Dec (place w c d ≡ place w a b)
        → eqb (bit (get_or (set t (place w a b) new) (place w c d) 0) (d % 8)) 1 ≡ eqb (bit (get_or t (place w c d) 0) (d % 8)) 1
    go (no n) = ap (λ (x : ℕ). eqb (bit x (d % 8)) 1) (get_or-set_other t (place w a b) (place w c d) new 0 n)
    go (yes e) =
        subst (λ (p : ℕ). eqb (bit (get_or (set t (place w a b) new) p 0) (d % 8)) 1 ≡ eqb (bit (get_or t p 0) (d % 8)) 1) (sym e)
        (⊎_elim
        (λ s. ap (λ (x : ℕ). eqb (bit x (d % 8)) 1) s
        ∙ ap (λ (n : ℕ). eqb n 1) (bit_other (get_or t (place w a b) 0) (b % 8) (d % 8) v (λ f. ne (place_row w a b c d hb e) (place-bit w a b c d hb hd e f))))
        (λ s. ap (λ (l : List ℕ). eqb (bit (get_or l (place w a b) 0) (d % 8)) 1) s)
        (at_set t (place w a b) new))

pub P-set : (w : ℕ) (t : List ℕ) (a b c d : ℕ) (v : Bool) → length t ≡ table_size w → a < groups w → b < groups w → d < groups w
    → P w (set_P w t a b v) c d ≡ cond (eqb c a && eqb d b) v (P w t c d)
P-set w t a b c d v hl ha hb hd = go (ℕ_discrete c a) (ℕ_discrete d b)
  where
    go : Dec (c ≡ a) → Dec (d ≡ b) → P w (set_P w t a b v) c d ≡ cond (eqb c a && eqb d b) v (P w t c d)
    go (yes p) (yes q) = rw (eq-eqb c a p, eq-eqb d b q, p, q) (P-same w t a b v hl ha)
    go (yes p) (no n) = rw (eq-eqb c a p, ne_eqb d b n) (P_other w t a b c d v hb hd (λ e f. n f))
    go (no n) x = rw (ne_eqb c a n) (P_other w t a b c d v hb hd (λ e f. n e))

-- every cell is a byte
abbrev pub Bytes : List ℕ → Type 0
Bytes t = (i : ℕ) → get_or t i 0 < 256

pub bytes-set_P : (w : ℕ) (t : List ℕ) (a b : ℕ) (v : Bool) → Bytes t → Bytes (set_P w t a b v)
unfolding set_P
bytes-set_P w t a b v h i = go (ℕ_discrete i (place w a b))
  where
    new : ℕ
    new = set_bit (get_or t (place w a b) 0) (b % 8) v

    go : Dec (i ≡ place w a b) → get_or (set t (place w a b) new) i 0 < 256
    go (no n) = rw (get_or-set_other t (place w a b) i new 0 n) (h i)
    go (yes e) =
        rw e
        (⊎_elim
        (λ s. rw s (bit_fits (get_or t (place w a b) 0) (b % 8) v (h (place w a b)) (omega arith)))
        (λ s. rw s (h (place w a b)))
        (at_set t (place w a b) new))

-- ---- both bits of a pair written
pub length-set_both : (w : ℕ) (t : List ℕ) (a b : ℕ) (v : Bool) → length (set_both w t a b v) ≡ length t
unfolding set_both
length-set_both w t a b v = simp length-set_P

pub bytes_both : (w : ℕ) (t : List ℕ) (a b : ℕ) (v : Bool) → Bytes t → Bytes (set_both w t a b v)
unfolding set_both
bytes_both w t a b v h = bytes-set_P w (set_P w t a b v) b a v (bytes-set_P w t a b v h)

cond_or : (p q v x : Bool) → cond q v (cond p v x) ≡ cond (p || q) v x
cond_or true true v x = refl
cond_or true false v x = refl
cond_or false true v x = refl
cond_or false false v x = refl

pub P_both : (w : ℕ) (t : List ℕ) (a b c d : ℕ) (v : Bool) → length t ≡ table_size w → a < groups w → b < groups w → d < groups w
    → P w (set_both w t a b v) c d ≡ cond (names a b c d) v (P w t c d)
unfolding set_both names
P_both w t a b c d v hl ha hb hd =
    P-set w (set_P w t a b v) b a c d v (length-set_P w t a b v ∙ hl) hb ha hd
    ∙ ap (λ (x : Bool). cond (eqb c b && eqb d a) v x) (P-set w t a b c d v hl ha hb hd)
    ∙ cond_or (eqb c a && eqb d b) (eqb c b && eqb d a) v (P w t c d)

pub names_swap : (a b c d : ℕ) → names a b c d ≡ names a b d c
unfolding names
names_swap a b c d =
    or_comm (eqb c a && eqb d b) (eqb c b && eqb d a)
    ∙ ap₂ (λ (x y : Bool). x || y) (and_comm (eqb c b) (eqb d a)) (and_comm (eqb c a) (eqb d b))

-- permission is mutual
abbrev pub Mutual : ℕ → List ℕ → Type 0
Mutual w t = (c d : ℕ) → c < groups w → d < groups w → P w t c d ≡ P w t d c

pub mutual_both : (w : ℕ) (t : List ℕ) (a b : ℕ) (v : Bool) → length t ≡ table_size w → a < groups w → b < groups w
    → Mutual w t → Mutual w (set_both w t a b v)
mutual_both w t a b v hl ha hb h c d hc hd =
    P_both w t a b c d v hl ha hb hd
    ∙ ap₂ (λ (x y : Bool). cond x v y) (names_swap a b c d) (h c d hc hd)
    ∙ sym (P_both w t a b d c v hl ha hb hc)

-- ---- two tables are equal by what they say
-- the place of bit k of a row's byte i
seat : (w i k : ℕ) → i < w → k < 8 → (8 * (w - 1 - i) + k < groups w) × ((8 * (w - 1 - i) + k) % 8 ≡ k) × (w - 1 - (8 * (w - 1 - i) + k) / 8 ≡ i)
seat w i k hi hk = (omega arith, omega arith, omega arith)

module _ (w : ℕ) (t u : List ℕ) (bt : Bytes t) (bu : Bytes u) (same : (c d : ℕ) → c < groups w → d < groups w → P w t c d ≡ P w u c d) where
  same_bit : (i k : ℕ) → 0 < w → i < table_size w → k < 8 → bit (get_or t i 0) k ≡ bit (get_or u i 0) k
  unfolding P place
  same_bit i k hw hi hk =
      let s = seat w (i % w) k (mod-lt i hw) hk in
      let d : ℕ = 8 * (w - 1 - i % w) + k in
      let at : place w (i / w) d ≡ i = ap (λ (m : ℕ). i / w * w + m) s.2 ∙ div-add-mod' i w in
      bit_ext (get_or t i 0) (get_or u i 0) k
      (subst₂ (λ (p q : ℕ). eqb (bit (get_or t p 0) q) 1 ≡ eqb (bit (get_or u p 0) q) 1) at s.1 (same (i / w) d ((div-lt_iff_lt-mul hw).1 hi) s.0))

  pub table_ext : length t ≡ table_size w → length u ≡ table_size w → t ≡ u
  table_ext lt lu =
      ext_get_or 0 t u (lt ∙ sym lu)
      (λ i h. bits_ext 8 (get_or t i 0) (get_or u i 0) (bt i) (bu i) (λ k hk. same_bit i k (wide i (omega arith)) (omega arith) hk))
    where
      wide : (i : ℕ) → i < table_size w → 0 < w
      wide i h = go w h
        where
          go : (v : ℕ) → i < table_size v → 0 < v
          go zero h = absurd (omega arith)
          go (suc v) h = omega arith

-- ---- the table at start-up: row 1 and group 1, and nothing else
pub length-start : (w : ℕ) → length (start_table w) ≡ table_size w
unfolding start_table
length-start w = length-tab (start_byte w) 0 (table_size w)

pub get_or-start : (w k : ℕ) → k < table_size w → get_or (start_table w) k 0 ≡ start_byte w k
unfolding start_table
get_or-start w k h = get_or-tab (start_byte w) 0 (table_size w) k h ∙ ap (start_byte w) (zero-add k)

ones : (k : ℕ) → k < 8 → eqb (255 / 2 ^ k % 2) 1 ≡ true
ones = each8 (λ (k : ℕ). eqb (255 / 2 ^ k % 2) 1 ≡ true) refl refl refl refl refl refl refl refl

second : (k : ℕ) → k < 8 → eqb (2 / 2 ^ k % 2) 1 ≡ eqb k 1
second = each8 (λ (k : ℕ). eqb (2 / 2 ^ k % 2) 1 ≡ eqb k 1) refl refl refl refl refl refl refl refl

nothing : (k : ℕ) → eqb (0 / 2 ^ k % 2) 1 ≡ false
nothing k = rw (zero-div (2 ^ k))

start_byte_at : (w a b : ℕ) → 0 < w → start_byte w (place w a b) ≡ cond (eqb a 1) 255 (cond (eqb (w - 1 - b / 8) (w - 1)) 2 0)
unfolding start_byte
start_byte_at w a b h = rw (place-div w a b h, place-mod w a b h)

pub P-start : (w a b : ℕ) → a < groups w → b < groups w → P w (start_table w) a b ≡ (eqb a 1 || eqb b 1)
unfolding P bit
P-start w a b ha hb =
    ap (λ (x : ℕ). eqb (x / 2 ^ (b % 8) % 2) 1) (get_or-start w (place w a b) (place_lt w a b ha) ∙ start_byte_at w a b (omega arith))
    ∙ go (ℕ_discrete a 1) (dec_lt b 8)
  where
    go : Dec (a ≡ 1) → Dec (b < 8)
        → eqb (cond (eqb a 1) 255 (cond (eqb (w - 1 - b / 8) (w - 1)) 2 0) / 2 ^ (b % 8) % 2) 1 ≡ (eqb a 1 || eqb b 1)
    go (yes p) x = rw (eq-eqb a 1 p) (ones (b % 8) (omega arith))
    go (no n) (yes l) =
        let e : w - 1 - b / 8 ≡ w - 1 = omega arith in
        let f : b % 8 ≡ b = omega arith in
        rw (ne_eqb a 1 n, eq-eqb (w - 1 - b / 8) (w - 1) e, f) (second b l)
    go (no n) (no g) =
        let e : w - 1 - b / 8 ≡ w - 1 → ⊥ = λ z. omega arith in
        let f : b ≡ 1 → ⊥ = λ z. omega arith in
        rw (ne_eqb a 1 n, ne_eqb (w - 1 - b / 8) (w - 1) e, ne_eqb b 1 f) (nothing (b % 8))

pub mutual_start : (w : ℕ) → Mutual w (start_table w)
mutual_start w c d hc hd = P-start w c d hc hd ∙ or_comm (eqb c 1) (eqb d 1) ∙ sym (P-start w d c hd hc)
