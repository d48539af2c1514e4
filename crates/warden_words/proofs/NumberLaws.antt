-- Numbers: digits one by one, held at 255.
-- Assumes nothing.
use mathlib.Core.Path.{◌≡◌, sym, ◌∙◌}
use mathlib.Core.List.{List, [], ◌∷◌}
use Prim.Native.Nat.{ℕ, suc, ◌+◌, ◌-◌, ◌*◌, ◌≤◌, ◌<◌}
use native.Mathlib.Numerals.{add-one}
use native.Mathlib.Decide.{dec_lt}
use native.Mathlib.Omega.{arith}
use borrow.Author.Tests.{lt-ltb, le-ltb}
use lib.ListN.{length, get_or, drop, drop_of_length-le}
use lib.Seq.{drop-cons}
use Rattle.warden_words.specs.Numbers.{decimal_from, at_most, held}

large : (n : ℕ) (ds : List ℕ) → 255 ≤ n → 255 ≤ decimal_from n ds
unfolding decimal_from
large n [] h = h
large n (d ∷ ds) h = large (10 * n + (d - 48)) ds (omega arith)

-- beyond 255 the digits behind do not matter
hold : (n : ℕ) (ds : List ℕ) → at_most 255 (decimal_from n ds) ≡ at_most 255 (decimal_from (at_most 255 n) ds)
hold n ds = go (dec_lt n 255)
  where
    go : Dec (n < 255) → at_most 255 (decimal_from n ds) ≡ at_most 255 (decimal_from (at_most 255 n) ds)
    go (yes h) = rw (lt-ltb n 255 h)
    go (no h) =
        let k : 255 ≤ n = omega arith in
        let x : 255 ≤ decimal_from n ds = large n ds k in
        let y : 255 ≤ decimal_from 255 ds = large 255 ds (omega arith) in
        rw (le-ltb n 255 k, le-ltb (decimal_from n ds) 255 x, le-ltb (decimal_from 255 ds) 255 y)

pub held_again : (w : List ℕ) (i v r : ℕ) → i < length w → r ≡ at_most 255 (10 * v + (get_or w i 0 - 48))
    → held w ≡ at_most 255 (decimal_from v (drop i w)) → held w ≡ at_most 255 (decimal_from r (drop (i + 1) w))
unfolding decimal_from
held_again w i v r h e p =
    p ∙ rw (drop-cons w i 0 h, add-one i, hold (10 * v + (get_or w i 0 - 48)) (drop (suc i) w), sym e)

pub held_end : (w : List ℕ) (i v : ℕ) → length w ≤ i → v ≤ 255 → held w ≡ at_most 255 (decimal_from v (drop i w)) → v ≡ held w
unfolding decimal_from
held_end w i v h b p = sym (p ∙ rw (drop_of_length-le w h) (go (dec_lt v 255)))
  where
    go : Dec (v < 255) → at_most 255 v ≡ v
    go (yes l) = rw (lt-ltb v 255 l)
    go (no l) = rw (le-ltb v 255 (omega arith)) (omega arith)
