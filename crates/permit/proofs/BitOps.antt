-- `|` with a mask, and `&` with `!` of one, in the words of `set_bit`; and a byte by its bits.
-- Assumes nothing.
use mathlib.Core.Path.{◌≡◌, refl, sym, ap, ap₂, ◌∙◌}
use mathlib.Core.Bool.{Bool, true, false}
use Prim.Native.Nat.{ℕ, zero, suc, ◌+◌, ◌-◌, ◌*◌, ◌/◌, ◌%◌, ◌^◌, ◌<◌, max}
use native.Mathlib.Nat.{mod-lt, mod-mod, mod-eq_of_lt, add-zero, one-mul, pow-suc}
use native.Mathlib.Omega.{arith}
use lib.Dec.{eqb}
use lib.Pow.{pow_pos, split, ones_lt, shl_exact, shr-shr}
use lib.Bits.{bit_and, bit_or, and_mask, and_block, and_high, or_block, or_step, or_zero_r}
use Rattle.wire.specs.Bits.{num, bit, set_bit}
use Rattle.wire.proofs.BitLaws.{each8}
use Rattle.permit.specs.Masks.{Masked}

-- ---- `1 << k`
-- a group's bit is not shifted out of the byte
pub one_shifted : (group : ℕ) → 1 * 2 ^ (group % 8) % 256 ≡ 2 ^ (group % 8)
one_shifted group = shl_exact 1 (group % 8) 8 (omega arith) (omega arith) ∙ one-mul (2 ^ (group % 8))

-- ---- `x | m`
-- a power of two, as a block of k bits
as_block : (k : ℕ) → 2 ^ k ≡ 1 * 2 ^ k + 0
as_block k = omega arith

or_one : (q : ℕ) → bit_or q 1 ≡ q / 2 * 2 + 1
or_one q = or_step q 1 ∙ ap₂ (λ (x y : ℕ). x * 2 + y) (or_zero_r (q / 2)) most
  where
    most : max (q % 2) 1 ≡ 1
    most = omega arith

pub or_bit : (x k : ℕ) → bit_or x (2 ^ k) ≡ set_bit x k true
unfolding set_bit
or_bit x k =
    ap₂ (λ (a b : ℕ). bit_or a b) (sym (split x k)) (as_block k)
    ∙ or_block k (x / 2 ^ k) 1 (x % 2 ^ k) 0 (mod-lt x (pow_pos k)) (pow_pos k)
    ∙ ap₂ (λ (a b : ℕ). a * 2 ^ k + b) (or_one (x / 2 ^ k)) (or_zero_r (x % 2 ^ k))

-- ---- `x & !m`
-- the ones above bit k and below it
not_mask : (k : ℕ) → k < 8 → 255 - 2 ^ k ≡ (2 ^ (7 - k + 1) - 2 ^ 1) * 2 ^ k + (2 ^ k - 1)
not_mask =
    each8 (λ (k : ℕ). 255 - 2 ^ k ≡ (2 ^ (7 - k + 1) - 2 ^ 1) * 2 ^ k + (2 ^ k - 1)) refl refl refl refl refl refl refl refl

top_lt : (x k : ℕ) → k < 8 → x < 256 → x / 2 ^ k / 2 < 2 ^ (7 - k)
top_lt x =
    each8 (λ (k : ℕ). x < 256 → x / 2 ^ k / 2 < 2 ^ (7 - k))
    (λ h. omega arith)
    (λ h. omega arith)
    (λ h. omega arith)
    (λ h. omega arith)
    (λ h. omega arith)
    (λ h. omega arith)
    (λ h. omega arith)
    (λ h. omega arith)

pub and_not : (x k : ℕ) → x < 256 → k < 8 → bit_and x (255 - 2 ^ k) ≡ set_bit x k false
unfolding set_bit
and_not x k hx hk =
    ap₂ (λ (a b : ℕ). bit_and a b) (sym (split x k)) (not_mask k hk)
    ∙ and_block k (x / 2 ^ k) (2 ^ (7 - k + 1) - 2 ^ 1) (x % 2 ^ k) (2 ^ k - 1) (mod-lt x (pow_pos k)) (ones_lt k)
    ∙ ap₂ (λ (a b : ℕ). a * 2 ^ k + b)
    (and_high (x / 2 ^ k) (7 - k) 1 ∙ ap (λ (n : ℕ). n * 2) (mod-eq_of_lt (top_lt x k hk hx)) ∙ sym (add-zero (x / 2 ^ k / 2 * 2)))
    (and_mask (x % 2 ^ k) k ∙ mod-mod x (2 ^ k))

-- both, as the code has them
pub with_on : (x m : ℕ) (v : Bool) → v ≡ true → Masked x m v (bit_or x m)
with_on x m v e k h p = rw (e, p) (or_bit x k)

pub with_off : (x m : ℕ) (v : Bool) → x < 256 → v ≡ false → Masked x m v (bit_and x (255 - m))
with_off x m v hx e k h p = rw (e, p) (and_not x k hx h)

-- ---- two numbers are equal by their bits
pub bits_ext : (n x y : ℕ) → x < 2 ^ n → y < 2 ^ n → ((k : ℕ) → k < n → bit x k ≡ bit y k) → x ≡ y
unfolding bit
bits_ext zero x y hx hy h = omega arith
bits_ext (suc n) x y hx hy h =
    let lx : x < 2 ^ n * 2 = rw pow-suc at hx in
    let ly : y < 2 ^ n * 2 = rw pow-suc at hy in
    let low : x / 2 ^ 0 % 2 ≡ y / 2 ^ 0 % 2 = h 0 (omega arith) in
    let top : x / 2 ≡ y / 2 = bits_ext n (x / 2) (y / 2) (omega arith) (omega arith) (λ k l. down x k ∙ h (suc k) (omega arith) ∙ sym (down y k)) in
    omega arith
  where
    one_add : (k : ℕ) → 1 + k ≡ suc k
    one_add k = omega arith

    down : (z k : ℕ) → z / 2 / 2 ^ k % 2 ≡ z / 2 ^ suc k % 2
    down z k = ap (λ (m : ℕ). m % 2) (shr-shr z 1 k ∙ ap (λ (m : ℕ). z / 2 ^ m) (one_add k))

pub bit_lt : (x k : ℕ) → bit x k < 2
unfolding bit
bit_lt x k = omega arith

pub bit_ext : (x y k : ℕ) → eqb (bit x k) 1 ≡ eqb (bit y k) 1 → bit x k ≡ bit y k
bit_ext x y k e = by_num (bit x k) (bit_lt x k) ∙ ap num e ∙ sym (by_num (bit y k) (bit_lt y k))
  where
    by_num : (b : ℕ) → b < 2 → b ≡ num (eqb b 1)
    by_num zero h = refl
    by_num (suc zero) h = refl
    by_num (suc (suc b)) h = absurd (omega arith)
