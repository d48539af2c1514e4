-- Sets of phys: what is in a set that a function makes, the loop that makes a byte of one, and the ones count.
-- Assumes nothing.
use mathlib.Core.Path.{◌≡◌, refl, sym, ap, ap₂, ◌∙◌}
use mathlib.Core.Bool.{Bool, true, false}
use mathlib.Core.List.{List, ◌++◌}
use Prim.Native.Nat.{ℕ, zero, suc, ◌+◌, ◌-◌, ◌*◌, ◌/◌, ◌%◌, ◌^◌, min, ◌≤◌, ◌<◌}
use native.Mathlib.Nat.{pow-suc, pow-le-pow_right, add-zero, zero-add}
use native.Mathlib.Decide.{dec_lt}
use native.Mathlib.Numerals.{add-one}
use native.Mathlib.Omega.{arith}
use mir.Syntax.{w8}
use mir.Val.{bool_byte, Fits}
use lib.Dec.{eqb, lit<}
use lib.Pow.{shr-shr}
use lib.ListN.{length, take, get_or, get_or-append}
use lib.Seq.{length-take-le, get_or-take}
use lib.Count.{ones, ones_step, ones-le}
use Rattle.wire.specs.Bits.{num, bit}
use Rattle.wire.specs.PhySet.{member, bits_of, set_byte, set_of, tally, phys_in}
use Rattle.wire.proofs.BitLaws.{num_le, eqb_num, byte_num, byte_le}
use Rattle.wire.proofs.Loops.{length-tab, get_or-tab}

-- ---- a byte of a set
pub bits_lt : (f : ℕ → Bool) (i n : ℕ) → bits_of f i n < 2 ^ n
unfolding bits_of
bits_lt f i zero = omega arith
bits_lt f i (suc n) = rw (pow-suc 2 n) (omega (arith, num_le (f i), bits_lt f (suc i) n))

-- bit k of what f gives from i on is f (i + k)
pub bit_bits : (f : ℕ → Bool) (i n k : ℕ) → k < n → bit (bits_of f i n) k ≡ num (f (i + k))
unfolding bit bits_of
bit_bits f i zero k h = absurd (omega arith)
bit_bits f i (suc n) zero h = rw (add-zero i) (omega (arith, num_le (f i)))
bit_bits f i (suc n) (suc k) h =
    let e : suc i + k ≡ i + suc k = omega arith in
    let d : (num (f i) + 2 * bits_of f (suc i) n) / 2 ≡ bits_of f (suc i) n = omega (arith, num_le (f i)) in
    ap (λ (x : ℕ). x % 2) (sym (shr-shr (num (f i) + 2 * bits_of f (suc i) n) 1 k ∙ ap (λ (m : ℕ). (num (f i) + 2 * bits_of f (suc i) n) / 2 ^ m) (one_add k)) ∙ ap (λ (x : ℕ). x / 2 ^ k) d)
    ∙ bit_bits f (suc i) n k (omega arith)
    ∙ ap (λ (m : ℕ). num (f m)) e
  where
    one_add : (k : ℕ) → 1 + k ≡ suc k
    one_add k = omega arith

pub length-set_of : (f : ℕ → Bool) → length (set_of f) ≡ 16
unfolding set_of
length-set_of f = length-tab _ 0 16

-- phy i is in the set of f exactly where f says so
pub member-set_of : (f : ℕ → Bool) (i : ℕ) → i < 128 → member (set_of f) i ≡ f i
unfolding member set_of set_byte
member-set_of f i h =
    let e : 8 * (0 + i / 8) + i % 8 ≡ i = omega arith in
    ap (λ (x : ℕ). eqb (bit x (i % 8)) 1) (get_or-tab (set_byte f) 0 16 (i / 8) (omega arith))
    ∙ ap (λ (x : ℕ). eqb x 1) (bit_bits f (8 * (0 + i / 8)) 8 (i % 8) (omega arith) ∙ ap (λ (m : ℕ). num (f m)) e)
    ∙ eqb_num (f i)

-- ---- the loop that makes a byte, from its highest bit down
bits_room : (f : ℕ → Bool) (i n b : ℕ) → b ≡ bits_of f i n → n ≤ 7 → b < 128
bits_room f i n b e h =
    let p : 2 ^ n ≤ 2 ^ 7 = pow-le-pow_right (lit< tt) h in omega (arith, bits_lt f i n)

bits_more : (f : ℕ → Bool) (a j b : ℕ) (v : Bool) → 0 < j → j ≤ 8 → b ≡ bits_of f (a + j) (8 - j) → v ≡ f (a + (j - 1))
    → b * 2 + bool_byte v ≡ bits_of f (a + (j - 1)) (8 - (j - 1))
unfolding bits_of
bits_more f a j b v h l e ev =
    let p : 8 - (j - 1) ≡ suc (8 - j) = omega arith in
    let q : suc (a + (j - 1)) ≡ a + j = omega arith in
    rw (p, q, ← e, ← ev, byte_num v) (omega arith)

-- its invariant: the bits from j up are in
pub record Down (f : ℕ → Bool) (a b j : ℕ) : Type 0 where
  pub within : j ≤ 8
  pub bits : b ≡ bits_of f (a + j) (8 - j)

module _ (f : ℕ → Bool) (a b j : ℕ) where
  pub down_doubles : 0 < j → Down f a b j → Fits w8 (b * 2)
  down_doubles h d = let r = bits_room f (a + j) (8 - j) b d.bits (omega arith) in omega arith

  pub down_fits : (v : Bool) → 0 < j → Down f a b j → Fits w8 (b * 2 + bool_byte v)
  down_fits v h d =
      let r = bits_room f (a + j) (8 - j) b d.bits (omega arith) in
      let l = byte_le v in omega arith

  pub down_again : (v : Bool) → 0 < j → v ≡ f (a + (j - 1)) → Down f a b j → Down f a (b * 2 + bool_byte v) (j - 1)
  down_again v h e d = record { within = omega arith; bits = bits_more f a j b v h d.within d.bits e }

  pub down_end : j ≤ 0 → Down f a b j → b ≡ bits_of f a 8
  down_end h d =
      let z : j ≡ 0 = omega arith in
      d.bits ∙ rw (z, add-zero)

pub down_start : (f : ℕ → Bool) (a : ℕ) → Down f a 0 8
unfolding bits_of
down_start f a = record { within = omega arith; bits = refl }

-- ---- the loop that makes a byte from its lowest bit up, as far as there are phys
bits_next : (f : ℕ → Bool) (a n : ℕ) → bits_of f a (suc n) ≡ bits_of f a n + num (f (a + n)) * 2 ^ n
unfolding bits_of
bits_next f a zero = rw (add-zero a) (omega arith)
bits_next f a (suc n) =
    let e : suc a + n ≡ a + suc n = omega arith in
    let r : bits_of f (suc a) (suc n) ≡ bits_of f (suc a) n + num (f (a + suc n)) * 2 ^ n = bits_next f (suc a) n ∙ ap (λ (k : ℕ). bits_of f (suc a) n + num (f k) * 2 ^ n) e in
    ap (λ (x : ℕ). num (f a) + 2 * x) r ∙ rw (pow-suc 2 n) (omega arith)

bits_rest : (f : ℕ → Bool) (a n m : ℕ) → ((k : ℕ) → a + n ≤ k → f k ≡ false) → bits_of f a (n + m) ≡ bits_of f a n
bits_rest f a n zero h = ap (bits_of f a) (add-zero n)
bits_rest f a n (suc m) h =
    let e : n + suc m ≡ suc (n + m) = omega arith in
    ap (bits_of f a) e ∙ bits_next f a (n + m) ∙ rw (h (a + (n + m)) (omega arith), bits_rest f a n m h) (omega arith)

-- past the last phy a byte is zero
pub byte_past : (f : ℕ → Bool) (k : ℕ) → ((j : ℕ) → 8 * k ≤ j → f j ≡ false) → set_byte f k ≡ 0
unfolding set_byte bits_of
byte_past f k h = bits_rest f (8 * k) 0 8 (λ j l. h j (omega arith))

-- its invariant: the bits of a up to i are in, and the next one is `bit`
pub record Up (f : ℕ → Bool) (a byte bit i : ℕ) : Type 0 where
  pub from : a ≤ i
  pub to : i ≤ a + 8
  pub bits : byte ≡ bits_of f a (i - a)
  pub next : bit ≡ 2 ^ (i - a)

pub up_start : (f : ℕ → Bool) (a : ℕ) → Up f a 0 1 a
unfolding bits_of
up_start f a = let z : a - a ≡ 0 = omega arith in record { from = omega arith; to = omega arith; bits = rw z; next = rw z }

module _ (f : ℕ → Bool) (a byte bit i : ℕ) (u : Up f a byte bit i) (h : i < a + 8) where
  up_power : 2 * bit ≤ 256
  up_power =
      let j : i - a ≤ 7 = omega (arith, u.from) in
      let p : 2 ^ (i - a) ≤ 2 ^ 7 = pow-le-pow_right (lit< tt) j in omega (arith, u.next)

  up_byte : byte < bit
  up_byte = omega (arith, u.bits, u.next, bits_lt f a (i - a))

  pub up_room : byte + bit < 256
  up_room = omega (arith, up_power, up_byte)

  up_more : (x : ℕ) → x ≡ bits_of f a (i - a) + num (f i) * 2 ^ (i - a) → Up f a x (bit + bit) (i + 1)
  up_more x e =
      let n : i + 1 - a ≡ suc (i - a) = omega (arith, u.from) in
      let p : a + (i - a) ≡ i = omega (arith, u.from) in
      record {
        from = omega (arith, u.from);
        to = omega arith;
        bits = e ∙ rw n (sym (bits_next f a (i - a) ∙ ap (λ (k : ℕ). bits_of f a (i - a) + num (f k) * 2 ^ (i - a)) p));
        next = rw (n, pow-suc 2 (i - a)) (omega (arith, u.next));
      }

  pub up_on : true ≡ f i → Up f a (byte + bit) (bit + bit) (i + 1)
  up_on e = up_more (byte + bit) (rw (← e) (omega (arith, u.bits, u.next)))

  pub up_off : false ≡ f i → Up f a byte (bit + bit) (i + 1)
  up_off e = up_more byte (rw (← e) (omega (arith, u.bits)))

-- eight bits, or all that there are below n
pub up_end : (f : ℕ → Bool) (a byte bit i n : ℕ) → Up f a byte bit i → min (a + 8) n ≤ i → ((k : ℕ) → n ≤ k → false ≡ f k) → byte ≡ bits_of f a 8
up_end f a byte bit i n u h past = whole (dec_lt i n)
  where
    whole : Dec (i < n) → byte ≡ bits_of f a 8
    whole (yes l) = let e : i - a ≡ 8 = omega (arith, u.from, u.to) in u.bits ∙ ap (bits_of f a) e
    whole (no l) =
        let e : i - a + (8 - (i - a)) ≡ 8 = omega (arith, u.from, u.to) in
        u.bits ∙ sym (sym (ap (bits_of f a) e) ∙ bits_rest f a (i - a) (8 - (i - a)) (λ k m. sym (past k (omega (arith, u.from)))))

-- ---- the count
pub tally_le : (f : ℕ → Bool) (i n : ℕ) → tally f i n ≤ n
unfolding tally
tally_le f i zero = omega arith
tally_le f i (suc n) = omega (arith, num_le (f i), tally_le f (suc i) n)

pub tally-add : (f : ℕ → Bool) (i n m : ℕ) → tally f i (n + m) ≡ tally f i n + tally f (i + n) m
unfolding tally
tally-add f i zero m = rw (zero-add m, add-zero i) (omega arith)
tally-add f i (suc n) m =
    let e : suc n + m ≡ suc (n + m) = omega arith in
    let q : suc i + n ≡ i + suc n = omega arith in
    rw e (omega (arith, tally-add f (suc i) n m, ap (λ (k : ℕ). tally f k m) q))

-- two functions that agree count alike
pub tally-same : (f g : ℕ → Bool) (i n : ℕ) → ((k : ℕ) → i ≤ k → k < i + n → f k ≡ g k) → tally f i n ≡ tally g i n
unfolding tally
tally-same f g i zero h = refl
tally-same f g i (suc n) h =
    ap₂ (λ (a b : ℕ). a + b) (ap num (h i (omega arith) (omega arith))) (tally-same f g (suc i) n (λ k l u. h k (omega arith) (omega arith)))

-- sixteen bytes at the head of a buffer are the set
pub member_front : (s rest : List ℕ) (i : ℕ) → length s ≡ 16 → i < 128 → member (s ++ rest) i ≡ member s i
unfolding member
member_front s rest i l h =
    let k : i / 8 < length s = omega arith in
    ap (λ (x : ℕ). eqb (bit x (i % 8)) 1) (get_or-append s rest 0 (i / 8) k)

pub count_front : (s rest : List ℕ) → length s ≡ 16 → phys_in (s ++ rest) ≡ phys_in s
unfolding phys_in
count_front s rest l = tally-same (member (s ++ rest)) (member s) 0 128 (λ k a b. member_front s rest k l (omega arith))

-- the eight phys of byte k
bit_byte : (s : List ℕ) (k j : ℕ) → j < 8 → num (member s (8 * k + j)) ≡ get_or s k 0 / 2 ^ j % 2
unfolding member bit
bit_byte s k j h =
    let d : (8 * k + j) / 8 ≡ k = omega arith in
    let m : (8 * k + j) % 8 ≡ j = omega arith in
    rw (d, m) (back (get_or s k 0 / 2 ^ j))
  where
    back : (x : ℕ) → num (eqb (x % 2) 1) ≡ x % 2
    back x = half (x % 2) (omega arith)
      where
        half : (b : ℕ) → b < 2 → num (eqb b 1) ≡ b
        half zero h = refl
        half (suc zero) h = refl
        half (suc (suc b)) h = absurd (omega arith)

-- the n lowest bits of x from bit j up
low_ones : ℕ → ℕ → ℕ → ℕ
low_ones x j zero = 0
low_ones x j (suc n) = x / 2 ^ j % 2 + low_ones x (suc j) n

byte_tally : (s : List ℕ) (k j n : ℕ) → j + n ≤ 8 → tally (member s) (8 * k + j) n ≡ low_ones (get_or s k 0) j n
unfolding tally low_ones
byte_tally s k j zero h = refl
byte_tally s k j (suc n) h =
    let e : suc (8 * k + j) ≡ 8 * k + suc j = omega arith in
    ap₂ (λ (a b : ℕ). a + b) (bit_byte s k j (omega arith)) (ap (λ (i : ℕ). tally (member s) i n) e ∙ byte_tally s k (suc j) n (omega arith))

ones_low : (n j x : ℕ) → x / 2 ^ j < 2 ^ n → ones (x / 2 ^ j) ≡ low_ones x j n
unfolding ones low_ones
ones_low zero j x h = let e : x / 2 ^ j ≡ 0 = omega arith in rw e
ones_low (suc n) j x h =
    let p : x / 2 ^ j < 2 ^ n * 2 = rw pow-suc at h in
    let d : x / 2 ^ j / 2 ≡ x / 2 ^ suc j = shr-shr x j 1 ∙ ap (λ (m : ℕ). x / 2 ^ m) (add-one j) in
    let q : x / 2 ^ suc j < 2 ^ n = omega arith in
    ones_step (x / 2 ^ j) ∙ ap (λ (y : ℕ). x / 2 ^ j % 2 + y) (ap ones d ∙ ones_low n (suc j) x q)

-- the language's ones count of byte k is the number of its eight phys that are in the set
pub ones_byte : (s : List ℕ) (k : ℕ) → get_or s k 0 < 256 → ones (get_or s k 0) ≡ tally (member s) (8 * k) 8
ones_byte s k h =
    let z : get_or s k 0 / 2 ^ 0 ≡ get_or s k 0 = omega arith in
    let l : get_or s k 0 / 2 ^ 0 < 2 ^ 8 = omega arith in
    let e : 8 * k + 0 ≡ 8 * k = omega arith in
    ap ones (sym z) ∙ ones_low 8 0 (get_or s k 0) l ∙ sym (byte_tally s k 0 8 (omega arith)) ∙ ap (λ (i : ℕ). tally (member s) i 8) e

-- the invariant of the loop that counts: what is counted, and what is left to count, are all
pub record Counted (s : List ℕ) (count k : ℕ) : Type 0 where
  pub within : k ≤ 16
  pub small : count ≤ 8 * k
  pub counted : tally (member s) 0 128 ≡ count + tally (member s) (8 * k) (128 - 8 * k)

count_one : (s : List ℕ) (count k : ℕ) → k < 16 → get_or s k 0 < 256 → Counted s count k → Counted s (count + ones (get_or s k 0)) (k + 1)
count_one s count k h b r =
    let e : 128 - 8 * k ≡ 8 + (128 - 8 * (k + 1)) = omega arith in
    let n : 8 * k + 8 ≡ 8 * (k + 1) = omega arith in
    record {
      within = omega arith;
      small = omega (arith, ones-le 8 (get_or s k 0) b, r.small);
      counted =
          r.counted
          ∙ omega (arith, ap (tally (member s) (8 * k)) e, tally-add (member s) (8 * k) 8 (128 - 8 * (k + 1)), ones_byte s k b, ap (λ (i : ℕ). tally (member s) i (128 - 8 * (k + 1))) n);
    }

-- the code goes over the first sixteen bytes
pub count_again : (s : List ℕ) (count k : ℕ) → 16 ≤ length s → k < length (take 16 s) → get_or s k 0 < 256 → Counted s count k
    → Counted s (count + ones (get_or (take 16 s) k 0)) (k + 1)
count_again s count k l h b r =
    let e : k < 16 = omega (arith, length-take-le 16 s l) in rw (get_or-take 16 s k 0 e) (count_one s count k e b r)

pub count_end : (s : List ℕ) (count k : ℕ) → 16 ≤ length s → length (take 16 s) ≤ k → Counted s count k → count ≡ phys_in s
unfolding phys_in tally
count_end s count k m g r =
    let l = r.within in
    let h : 16 ≤ k = omega (arith, length-take-le 16 s m) in
    let e : 128 - 8 * k ≡ 0 = omega arith in
    sym (r.counted ∙ ap (λ (n : ℕ). count + tally (member s) (8 * k) n) e ∙ add-zero count)
