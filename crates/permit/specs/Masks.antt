-- What a mask does to a byte.
use Rattle.std.specs.Prelude.{◌≡◌, Bool, ℕ, ◌^◌, ◌<◌}
use Rattle.wire.specs.Bits.{set_bit}

-- r is x with the bit made v that m is the mask of
abbrev pub Masked : ℕ → ℕ → Bool → ℕ → Type 0
Masked x m v r = (k : ℕ) → k < 8 → m ≡ 2 ^ k → r ≡ set_bit x k v
