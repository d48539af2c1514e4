-- "Bytes 4-11: attached SAS address, big-endian."
use Rattle.std.specs.Prelude.{List, ℕ, zero, suc, ◌+◌, ◌*◌, get_or}

-- the n bytes of s from i on, behind what `high` holds
unfoldable pub big_endian : List ℕ → ℕ → ℕ → ℕ → ℕ
big_endian s zero i high = high
big_endian s (suc n) i high = big_endian s n (suc i) (high * 256 + get_or s i 0)

-- the address in the eight bytes of s from i on
unfoldable pub address_at : List ℕ → ℕ → ℕ
address_at s i = big_endian s 8 i 0
