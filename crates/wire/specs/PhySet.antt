-- "The phy set is 16 bytes, phy i at bit i mod 8 of byte i/8."
use Rattle.std.specs.Prelude.{Bool, false, ◌||◌, List, ℕ, zero, suc, ◌+◌, ◌*◌, ◌/◌, ◌%◌, eqb, get_or}
use Rattle.wire.specs.Bits.{num, bit, tab}

-- phy i is in the set s
unfoldable pub member : List ℕ → ℕ → Bool
member s i = eqb (bit (get_or s (i / 8) 0) (i % 8)) 1

-- f i, f (i + 1), .., n of them, as a number: the first is the lowest bit
unfoldable pub bits_of : (ℕ → Bool) → ℕ → ℕ → ℕ
bits_of f i zero = 0
bits_of f i (suc n) = num (f i) + 2 * bits_of f (suc i) n

-- byte k of the set of the phys at which f is true
unfoldable pub set_byte : (ℕ → Bool) → ℕ → ℕ
set_byte f k = bits_of f (8 * k) 8

-- the sixteen bytes of the set of the phys at which f is true
unfoldable pub set_of : (ℕ → Bool) → List ℕ
set_of f = tab (set_byte f) 0 16

-- at how many of i, i + 1, .., n of them, f is true
unfoldable pub tally : (ℕ → Bool) → ℕ → ℕ → ℕ
tally f i zero = 0
tally f i (suc n) = num (f i) + tally f (suc i) n

-- "the count is the number of ones in the sixteen bytes": how many of the phys 0 to 127 are in the set s
unfoldable pub phys_in : List ℕ → ℕ
phys_in s = tally (member s) 0 128

-- f is true at some number below n
unfoldable pub some : (ℕ → Bool) → ℕ → Bool
some f zero = false
some f (suc n) = f n || some f n
