-- An address by its halves.
-- Assumes nothing.
use mathlib.Core.Path.{◌≡◌, refl, sym, ap, ◌∙◌}
use mathlib.Core.List.{List}
use Prim.Native.Nat.{ℕ, zero, suc, ◌+◌, ◌*◌, ◌<◌}
use native.Mathlib.Nat.{zero-add}
use native.Mathlib.Omega.{arith}
use lib.ListN.{length, take, drop, get_or}
use lib.Seq.{take_all, get_or-take, get_or-drop}
use Rattle.std.specs.Int.{w64, from_be_bytes}
use Rattle.wire.specs.Address.{big_endian, address_at}

-- the bytes after the first n, behind the number that the first n make
big_split : (s : List ℕ) (n m i high : ℕ) → big_endian s (n + m) i high ≡ big_endian s m (i + n) (big_endian s n i high)
unfolding big_endian
big_split s zero m i high =
    let e : i + 0 ≡ i = omega arith in
    ap (λ (k : ℕ). big_endian s k i high) (zero-add m) ∙ ap (λ (k : ℕ). big_endian s m k high) (sym e)
big_split s (suc n) m i high =
    let e : suc n + m ≡ suc (n + m) = omega arith in
    let f : suc i + n ≡ i + suc n = omega arith in
    ap (λ (k : ℕ). big_endian s k i high) e
    ∙ big_split s n m (suc i) (high * 256 + get_or s i 0)
    ∙ ap (λ (k : ℕ). big_endian s m k (big_endian s n (suc i) (high * 256 + get_or s i 0))) f

-- a number before two bytes
high_2 : (s : List ℕ) (i high : ℕ) → big_endian s 2 i high ≡ high * 65536 + big_endian s 2 i 0
unfolding big_endian
high_2 s i high = omega arith

-- ---- what the functions make
pub two_made : (s : List ℕ) (i r : ℕ) → r ≡ get_or s i 0 * 256 + get_or s (i + 1) 0 → r ≡ big_endian s 2 i 0
unfolding big_endian
two_made s i r h =
    let n : i + 1 ≡ suc i = omega arith in
    omega (arith, ap (λ (k : ℕ). get_or s k 0) n, h)

pub four_made : (s : List ℕ) (i a b : ℕ) → (a ≡ big_endian s 2 i 0) × (a < 65536) → (b ≡ big_endian s 2 (i + 2) 0) × (b < 65536)
    → (a * 65536 + b ≡ big_endian s 4 i 0) × (a * 65536 + b < 4294967296)
four_made s i a b ea eb =
    (omega (arith, big_split s 2 2 i 0, high_2 s (i + 2) (big_endian s 2 i 0)), omega arith)

-- ---- eight bytes, copied
-- the first eight of eight bytes are all
pub eight_bytes : (s r : List ℕ) → length s ≡ 8 → r ≡ take 8 (drop 0 s) → r ≡ s
eight_bytes s r l e = e ∙ take_all 8 s (omega arith)

-- n bytes that are s's from j on make the same number there
big_moved : (s t : List ℕ) (n i j high : ℕ) → ((k : ℕ) → k < n → get_or t (i + k) 0 ≡ get_or s (j + k) 0)
    → big_endian t n i high ≡ big_endian s n j high
unfolding big_endian
big_moved s t zero i j high f = refl
big_moved s t (suc n) i j high f =
    ap (λ (x : ℕ). big_endian t n (suc i) (high * 256 + x)) first ∙ big_moved s t n (suc i) (suc j) (high * 256 + get_or s j 0) rest
  where
    first : get_or t i 0 ≡ get_or s j 0
    first = let a : i + 0 ≡ i = omega arith in let b : j + 0 ≡ j = omega arith in ap (λ (k : ℕ). get_or t k 0) (sym a) ∙ f 0 (omega arith) ∙ ap (λ (k : ℕ). get_or s k 0) b

    rest : (k : ℕ) → k < n → get_or t (suc i + k) 0 ≡ get_or s (suc j + k) 0
    rest k h =
        let a : suc i + k ≡ i + suc k = omega arith in
        let b : j + suc k ≡ suc j + k = omega arith in
        ap (λ (m : ℕ). get_or t m 0) a ∙ f (suc k) (omega arith) ∙ ap (λ (m : ℕ). get_or s m 0) b

-- what the language makes of eight bytes, the higher first
be_made : (e : List ℕ) (r : ℕ) → r ≡ from_be_bytes w64 e → r ≡ big_endian e 8 0 0
unfolding big_endian
be_made e r h = omega (arith, h)

pub address_copied : (s e : List ℕ) (i r : ℕ) → e ≡ take 8 (drop i s) → r ≡ from_be_bytes w64 e → r ≡ address_at s i
unfolding address_at
address_copied s e i r q h = be_made e r h ∙ big_moved s e 8 0 i 0 same
  where
    same : (k : ℕ) → k < 8 → get_or e (0 + k) 0 ≡ get_or s (i + k) 0
    same k h =
        ap (λ (m : ℕ). get_or e m 0) (zero-add k)
        ∙ ap (λ (l : List ℕ). get_or l k 0) q
        ∙ get_or-take 8 (drop i s) k 0 h
        ∙ get_or-drop i s k 0
