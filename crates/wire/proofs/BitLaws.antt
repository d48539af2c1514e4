-- Laws of `bit` and `set_bit`: what was written is read back, and nothing else is touched.
-- Assumes nothing.
use mathlib.Core.Path.{◌≡◌, refl, sym, ap, ◌∙◌, subst}
use mathlib.Core.Bool.{Bool, true, false}
use Prim.Native.Nat.{ℕ, zero, suc, ◌+◌, ◌-◌, ◌*◌, ◌/◌, ◌%◌, ◌^◌, ◌≤◌, ◌<◌}
use native.Mathlib.Nat.{mod-lt, div-lt_iff_lt-mul}
use native.Mathlib.Decide.{dec_lt}
use native.Mathlib.Omega.{arith}
use mir.Val.{bool_byte}
use lib.Dec.{eqb}
use lib.Arith.{digits_lt, digits_div, digits_mod}
use lib.Pow.{pow_pos, pow-add, high, low, field, mod-mod-pow, shr-shr}
use Rattle.wire.specs.Bits.{num, bit, set_bit}

-- a claim of each number below 8, one by one
pub each8 : (Q : ℕ → Type 0) → Q 0 → Q 1 → Q 2 → Q 3 → Q 4 → Q 5 → Q 6 → Q 7 → (k : ℕ) → k < 8 → Q k
each8 Q q0 q1 q2 q3 q4 q5 q6 q7 zero h = q0
each8 Q q0 q1 q2 q3 q4 q5 q6 q7 (suc zero) h = q1
each8 Q q0 q1 q2 q3 q4 q5 q6 q7 (suc (suc zero)) h = q2
each8 Q q0 q1 q2 q3 q4 q5 q6 q7 (suc (suc (suc zero))) h = q3
each8 Q q0 q1 q2 q3 q4 q5 q6 q7 (suc (suc (suc (suc zero)))) h = q4
each8 Q q0 q1 q2 q3 q4 q5 q6 q7 (suc (suc (suc (suc (suc zero))))) h = q5
each8 Q q0 q1 q2 q3 q4 q5 q6 q7 (suc (suc (suc (suc (suc (suc zero)))))) h = q6
each8 Q q0 q1 q2 q3 q4 q5 q6 q7 (suc (suc (suc (suc (suc (suc (suc zero))))))) h = q7
each8 Q q0 q1 q2 q3 q4 q5 q6 q7 (suc (suc (suc (suc (suc (suc (suc (suc k)))))))) h = absurd (omega arith)

-- ---- a Bool as a number
pub num_le : (v : Bool) → num v ≤ 1
num_le true = omega arith
num_le false = omega arith

num_lt : (v : Bool) → num v < 2
num_lt v = omega (arith, num_le v)

pub eqb_num : (v : Bool) → eqb (num v) 1 ≡ v
eqb_num true = refl
eqb_num false = refl

-- the code's `v as u8`
pub byte_num : (v : Bool) → bool_byte v ≡ num v
byte_num true = refl
byte_num false = refl

pub byte_le : (v : Bool) → bool_byte v ≤ 1
byte_le v = rw (byte_num v) (num_le v)

-- ---- a bit of a number
pub bit-same : (x k : ℕ) (v : Bool) → bit (set_bit x k v) k ≡ num v
unfolding bit set_bit
bit-same x k v =
    ap (λ (n : ℕ). n % 2) (high (x / 2 ^ k / 2 * 2 + num v) k (mod-lt x (pow_pos k))) ∙ digits_mod (x / 2 ^ k / 2) (num_lt v)

-- bit j goes by the number modulo a power above j
below : (n m j i : ℕ) → n % 2 ^ (i + (1 + j)) ≡ m % 2 ^ (i + (1 + j)) → n / 2 ^ j % 2 ≡ m / 2 ^ j % 2
below n m j i e =
    sym (field n 1 j)
    ∙ ap (λ (x : ℕ). x / 2 ^ j) (sym (mod-mod-pow n i (1 + j)) ∙ ap (λ (x : ℕ). x % 2 ^ (1 + j)) e ∙ mod-mod-pow m i (1 + j))
    ∙ field m 1 j

-- and by the number shifted down to a bit at or below j
above : (n m k i : ℕ) → n / 2 ^ k / 2 ≡ m / 2 ^ k / 2 → n / 2 ^ (k + 1 + i) % 2 ≡ m / 2 ^ (k + 1 + i) % 2
above n m k i e = ap (λ (x : ℕ). x % 2) (sym (down n) ∙ ap (λ (x : ℕ). x / 2 ^ i) e ∙ down m)
  where
    down : (y : ℕ) → y / 2 ^ k / 2 / 2 ^ i ≡ y / 2 ^ (k + 1 + i)
    down y = ap (λ (x : ℕ). x / 2 ^ i) (shr-shr y k 1) ∙ shr-shr y (k + 1) i

set-mod : (x k : ℕ) (v : Bool) → set_bit x k v % 2 ^ k ≡ x % 2 ^ k
unfolding set_bit
set-mod x k v = low (x / 2 ^ k / 2 * 2 + num v) k (mod-lt x (pow_pos k))

set-div : (x k : ℕ) (v : Bool) → set_bit x k v / 2 ^ k / 2 ≡ x / 2 ^ k / 2
unfolding set_bit
set-div x k v =
    ap (λ (n : ℕ). n / 2) (high (x / 2 ^ k / 2 * 2 + num v) k (mod-lt x (pow_pos k))) ∙ digits_div (x / 2 ^ k / 2) (num_lt v)

pub bit_other : (x k j : ℕ) (v : Bool) → (j ≡ k → ⊥) → bit (set_bit x k v) j ≡ bit x j
unfolding bit
bit_other x k j v ne = go (dec_lt j k) (dec_lt k j)
  where
    go : Dec (j < k) → Dec (k < j) → set_bit x k v / 2 ^ j % 2 ≡ x / 2 ^ j % 2
    go (yes l) g =
        below (set_bit x k v) x j (k - (1 + j))
        (subst (λ (n : ℕ). set_bit x k v % 2 ^ n ≡ x % 2 ^ n) (lets l) (set-mod x k v))
      where
        lets : j < k → k ≡ k - (1 + j) + (1 + j)
        lets h = omega arith
    go (no l) (yes g) =
        subst (λ (n : ℕ). set_bit x k v / 2 ^ n % 2 ≡ x / 2 ^ n % 2) (lets g)
        (above (set_bit x k v) x k (j - (k + 1)) (set-div x k v))
      where
        lets : k < j → k + 1 + (j - (k + 1)) ≡ j
        lets h = omega arith
    go (no l) (no g) = absurd (ne (omega arith))

-- a byte stays a byte
pub bit_fits : (x k : ℕ) (v : Bool) → x < 256 → k < 8 → set_bit x k v < 256
unfolding set_bit
bit_fits x k v hx hk =
    subst (λ (n : ℕ). (x / 2 ^ k / 2 * 2 + num v) * 2 ^ k + x % 2 ^ k < n) whole
    (digits_lt (digits_lt ((div-lt_iff_lt-mul (lit2)).1 ((div-lt_iff_lt-mul (pow_pos k)).1 (subst (λ (n : ℕ). x < n) (sym whole) hx))) (num_lt v)) (mod-lt x (pow_pos k)))
  where
    lit2 : 0 < 2
    lit2 = omega arith

    seven : 7 - k + 1 + k ≡ 8
    seven = omega arith

    whole : 2 ^ (7 - k) * 2 * 2 ^ k ≡ 256
    whole = ap (λ (n : ℕ). n * 2 ^ k) (sym (pow-add 2 (7 - k) 1)) ∙ sym (pow-add 2 (7 - k + 1) k) ∙ ap (λ (n : ℕ). 2 ^ n) seven
