-- The end of a file: what a reader finds behind a body, and that twelve bytes are the trailer of what is found in them.
-- Assumes nothing.
use mathlib.Core.Path.{◌≡◌, sym, ap, ap₂, ◌∙◌}
use mathlib.Core.List.{List, [], ◌∷◌, ◌++◌}
use Prim.Native.Nat.{ℕ, suc, ◌+◌, ◌*◌, ◌/◌, ◌%◌, ◌≤◌, ◌<◌}
use native.Mathlib.Nat.{zero-add}
use native.Mathlib.Omega.{arith}
use lib.ListN.{length, take, drop, get_or, length-append, length-drop, take-append-drop}
use lib.Seq.{get_or-append-add, get_or-drop, ext_get_or}
use Rattle.wire.specs.Bits.{tab}
use Rattle.wire.specs.Address.{big_endian}
use Rattle.wire.proofs.Loops.{length-tab, get_or-tab}
use Rattle.file_trailer.specs.Trailer.{two, four, trailer, tail, version_of, count_of, offset_of, size_of}
use Rattle.file_trailer.proofs.Trailers.{length-trailer}
use Rattle.files.specs.Promises.{Bytes}

-- ---- what is read behind a body
module _ (body end : List ℕ) where
  at_behind : (i : ℕ) → get_or (body ++ end) (length body + i) 0 ≡ get_or end i 0
  at_behind i = get_or-append-add body end i 0

  pub read_two : (i : ℕ) → big_endian (body ++ end) 2 (length body + i) 0 ≡ get_or end i 0 * 256 + get_or end (i + 1) 0
  unfolding big_endian
  read_two i =
      let e : suc (length body + i) ≡ length body + (i + 1) = omega arith in
      rw (e, at_behind i, at_behind (i + 1)) (omega arith)

  read_four : (i : ℕ) → big_endian (body ++ end) 4 (length body + i) 0
      ≡ ((get_or end i 0 * 256 + get_or end (i + 1) 0) * 256 + get_or end (i + 2) 0) * 256 + get_or end (i + 3) 0
  unfolding big_endian
  read_four i =
      let a : suc (length body + i) ≡ length body + (i + 1) = omega arith in
      let b : suc (length body + (i + 1)) ≡ length body + (i + 2) = omega arith in
      let c : suc (length body + (i + 2)) ≡ length body + (i + 3) = omega arith in
      rw (a, b, c, at_behind i, at_behind (i + 1), at_behind (i + 2), at_behind (i + 3)) (omega arith)

-- ---- what a reader finds in a body and a trailer
module _ (body : List ℕ) (v n o s : ℕ) where
  pub length_file : length (body ++ trailer v n o s) ≡ length body + 12
  length_file = length-append body (trailer v n o s) ∙ ap (λ (m : ℕ). length body + m) (length-trailer v n o s)

  tail_is : tail (body ++ trailer v n o s) ≡ length body
  tail_is = omega (arith, length_file)

  pub version_of_lem : version_of (body ++ trailer v n o s) ≡ v
  unfolding version_of trailer
  version_of_lem =
      let z : length body ≡ length body + 0 = omega arith in
      ap (λ (i : ℕ). big_endian (body ++ trailer v n o s) 2 i 0) (tail_is ∙ z) ∙ read_two body (trailer v n o s) 0 ∙ omega arith

  pub count_of_lem : count_of (body ++ trailer v n o s) ≡ n
  unfolding count_of trailer
  count_of_lem = ap (λ (i : ℕ). big_endian (body ++ trailer v n o s) 2 (i + 2) 0) tail_is ∙ read_two body (trailer v n o s) 2 ∙ omega arith

  pub offset_of_lem : offset_of (body ++ trailer v n o s) ≡ o
  unfolding offset_of trailer
  offset_of_lem = ap (λ (i : ℕ). big_endian (body ++ trailer v n o s) 4 (i + 4) 0) tail_is ∙ read_four body (trailer v n o s) 4 ∙ omega arith

  pub size_of_lem : size_of (body ++ trailer v n o s) ≡ s
  unfolding size_of trailer
  size_of_lem = ap (λ (i : ℕ). big_endian (body ++ trailer v n o s) 4 (i + 8) 0) tail_is ∙ read_four body (trailer v n o s) 8 ∙ omega arith

-- ---- twelve bytes are the trailer of the numbers in them
pub two_of : (x y : ℕ) → y < 256 → two (x * 256 + y) ≡ x ∷ y ∷ []
two_of x y h =
    let a : (x * 256 + y) / 256 ≡ x = omega arith in
    let b : (x * 256 + y) % 256 ≡ y = omega arith in
    rw (a, b)

four_of : (w x y z : ℕ) → x < 256 → y < 256 → z < 256 → four (((w * 256 + x) * 256 + y) * 256 + z) ≡ w ∷ x ∷ y ∷ z ∷ []
four_of w x y z hx hy hz =
    let h : (((w * 256 + x) * 256 + y) * 256 + z) / 65536 ≡ w * 256 + x = omega arith in
    let l : (((w * 256 + x) * 256 + y) * 256 + z) % 65536 ≡ y * 256 + z = omega arith in
    ap₂ (λ (m n : ℕ). two m ++ two n) h l ∙ ap₂ (λ (p q : List ℕ). p ++ q) (two_of w x hx) (two_of y z hz)

spelt : (end : List ℕ) (n : ℕ) → length end ≡ n → end ≡ tab (λ (i : ℕ). get_or end i 0) 0 n
spelt end n l =
    ext_get_or 0 end (tab (λ (i : ℕ). get_or end i 0) 0 n) (l ∙ sym (length-tab (λ (i : ℕ). get_or end i 0) 0 n))
    (λ i h. sym (get_or-tab (λ (j : ℕ). get_or end j 0) 0 n i (omega arith) ∙ ap (λ (j : ℕ). get_or end j 0) (zero-add i)))

trailer_of : (end : List ℕ) → length end ≡ 12 → Bytes end
    → trailer (get_or end 0 0 * 256 + get_or end 1 0) (get_or end 2 0 * 256 + get_or end 3 0)
    (((get_or end 4 0 * 256 + get_or end 5 0) * 256 + get_or end 6 0) * 256 + get_or end 7 0)
    (((get_or end 8 0 * 256 + get_or end 9 0) * 256 + get_or end 10 0) * 256 + get_or end 11 0)
    ≡ end
unfolding trailer tab
trailer_of end l b =
    ap₂ (λ (p q : List ℕ). p ++ q)
    (ap₂ (λ (p q : List ℕ). p ++ q)
    (ap₂ (λ (p q : List ℕ). p ++ q) (two_of (get_or end 0 0) (get_or end 1 0) (b 1)) (two_of (get_or end 2 0) (get_or end 3 0) (b 3)))
    (four_of (get_or end 4 0) (get_or end 5 0) (get_or end 6 0) (get_or end 7 0) (b 5) (b 6) (b 7)))
    (four_of (get_or end 8 0) (get_or end 9 0) (get_or end 10 0) (get_or end 11 0) (b 9) (b 10) (b 11))
    ∙ sym (spelt end 12 l)

-- ---- any bytes, twelve or more, are a body and such a trailer
bytes_drop : (n : ℕ) (l : List ℕ) → Bytes l → Bytes (drop n l)
bytes_drop n l b i = rw (get_or-drop n l i 0) (b (n + i))

pub file_parts : (file : List ℕ) → Bytes file → 12 ≤ length file
    → file ≡ take (tail file) file ++ trailer (version_of file) (count_of file) (offset_of file) (size_of file)
file_parts file b l =
    let n : ℕ = tail file in
    let end : List ℕ = drop n file in
    let le : length end ≡ 12 = length-drop n file ∙ omega arith in
    let v : ℕ = get_or end 0 0 * 256 + get_or end 1 0 in
    let c : ℕ = get_or end 2 0 * 256 + get_or end 3 0 in
    let o : ℕ = ((get_or end 4 0 * 256 + get_or end 5 0) * 256 + get_or end 6 0) * 256 + get_or end 7 0 in
    let s : ℕ = ((get_or end 8 0 * 256 + get_or end 9 0) * 256 + get_or end 10 0) * 256 + get_or end 11 0 in
    let e : file ≡ take n file ++ trailer v c o s =
    sym (take-append-drop n file) ∙ ap (λ (x : List ℕ). take n file ++ x) (sym (trailer_of end le (bytes_drop n file b))) in
    let ev : version_of file ≡ v = ap version_of e ∙ version_of_lem (take n file) v c o s in
    let ec : count_of file ≡ c = ap count_of e ∙ count_of_lem (take n file) v c o s in
    let eo : offset_of file ≡ o = ap offset_of e ∙ offset_of_lem (take n file) v c o s in
    let es : size_of file ≡ s = ap size_of e ∙ size_of_lem (take n file) v c o s in
    e ∙ rw (ev, ec, eo, es)
