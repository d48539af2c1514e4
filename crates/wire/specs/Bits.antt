-- Bits of a byte, and lists made by a function of the place. Bit 0 is the lowest.
use Rattle.std.specs.Prelude.{Bool, true, false, List, [], ◌∷◌, ℕ, zero, suc, ◌+◌, ◌/◌, ◌%◌, ◌*◌, ◌^◌}

-- a Bool as a bit
abbrev pub num : Bool → ℕ
num true = 1
num false = 0

-- bit k of x: 0 or 1
unfoldable pub bit : ℕ → ℕ → ℕ
bit x k = x / 2 ^ k % 2

-- x with bit k made v: what stands above bit k, then v, then what stands below
unfoldable pub set_bit : ℕ → ℕ → Bool → ℕ
set_bit x k v = (x / 2 ^ k / 2 * 2 + num v) * 2 ^ k + x % 2 ^ k

-- f i, f (i + 1), .., n of them
unfoldable pub tab : (ℕ → ℕ) → ℕ → ℕ → List ℕ
tab f i zero = []
tab f i (suc n) = f i ∷ tab f (suc i) n
