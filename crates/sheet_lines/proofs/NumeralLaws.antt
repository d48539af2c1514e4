-- Numbers in decimal: their figures one by one, and that one figure more is ten times the number and that figure.
-- Assumes nothing.
use mathlib.Core.Path.{◌≡◌, refl, sym, ap, ◌∙◌}
use mathlib.Core.Bool.{cond}
use mathlib.Core.List.{List, [], ◌∷◌, ◌++◌, append_assoc}
use Prim.Native.Nat.{ℕ, zero, suc, ◌+◌, ◌-◌, ◌*◌, ◌/◌, ◌%◌, ◌≤◌, ◌<◌}
use native.Mathlib.Decide.{dec_lt}
use native.Mathlib.Omega.{arith}
use borrow.Author.Tests.{lt-ltb, le-ltb}
use lib.Dec.{ltb}
use Rattle.lines.specs.Text.{digits}
use Rattle.sheet_lines.specs.Line.{figure, numeral}

-- ---- a number of one, two or three figures
pub one_figure : (n : ℕ) → n < 10 → numeral n ≡ figure n ∷ []
unfolding numeral digits
one_figure n h = rw (lt-ltb n 10 h)

pub two-figures : (n : ℕ) → 10 ≤ n → n < 100 → numeral n ≡ figure (n / 10) ∷ figure (n % 10) ∷ []
unfolding numeral digits
two-figures zero h l = absurd (omega arith)
two-figures (suc n) h l = rw (le-ltb (suc n) 10 h, lt-ltb (suc n / 10) 10 (omega arith))

pub three-figures : (n : ℕ) → 100 ≤ n → n < 1000 → numeral n ≡ figure (n / 100) ∷ figure (n / 10 % 10) ∷ figure (n % 10) ∷ []
unfolding numeral digits
three-figures zero h l = absurd (omega arith)
three-figures (suc zero) h l = absurd (omega arith)
three-figures (suc (suc n)) h l =
    let m = suc (suc n) in
    let e : m / 10 / 10 ≡ m / 100 = omega arith in
    rw (le-ltb m 10 (omega arith), le-ltb (m / 10) 10 (omega arith), lt-ltb (m / 10 / 10) 10 (omega arith), e)

-- ---- one figure more
-- what follows stands behind the digits
digits_behind : (most n : ℕ) (rest : List ℕ) → digits most n rest ≡ digits most n [] ++ rest
unfolding digits
digits_behind zero n rest = refl
digits_behind (suc most) n rest = go (λ l. digits_behind most (n / 10) l) (dec_lt n 10)
  where
    go : ((l : List ℕ) → digits most (n / 10) l ≡ digits most (n / 10) [] ++ l) → Dec (n < 10)
        → cond (ltb n 10) (figure n ∷ rest) (digits most (n / 10) (figure (n % 10) ∷ rest))
        ≡ cond (ltb n 10) (figure n ∷ []) (digits most (n / 10) (figure (n % 10) ∷ [])) ++ rest
    go less (yes h) = rw (lt-ltb n 10 h)
    go less (no h) =
        rw (le-ltb n 10 (omega arith))
        (less (figure (n % 10) ∷ rest)
        ∙ sym (append_assoc (digits most (n / 10) []) (figure (n % 10) ∷ []) rest)
        ∙ ap (λ (l : List ℕ). l ++ rest) (sym (less (figure (n % 10) ∷ []))))

-- room for more digits than there are changes nothing
digits_room : (most n : ℕ) (rest : List ℕ) → n < most → digits most n rest ≡ digits (suc most) n rest
unfolding digits
digits_room zero n rest h = absurd (omega arith)
digits_room (suc most) n rest h = go (λ k. digits_room most (n / 10) (figure (n % 10) ∷ rest) k) (dec_lt n 10)
  where
    go : (n / 10 < most → digits most (n / 10) (figure (n % 10) ∷ rest) ≡ digits (suc most) (n / 10) (figure (n % 10) ∷ rest)) → Dec (n < 10)
        → cond (ltb n 10) (figure n ∷ rest) (digits most (n / 10) (figure (n % 10) ∷ rest))
        ≡ cond (ltb n 10) (figure n ∷ rest) (digits (suc most) (n / 10) (figure (n % 10) ∷ rest))
    go less (yes l) = rw (lt-ltb n 10 l)
    go less (no l) = rw (le-ltb n 10 (omega arith)) (less (omega arith))

digits-roomy : (more n : ℕ) → digits (suc n + more) n [] ≡ numeral n
unfolding numeral
digits-roomy zero n = let e : suc n + 0 ≡ suc n = omega arith in ap (λ (m : ℕ). digits m n []) e
digits-roomy (suc more) n =
    let e : suc n + suc more ≡ suc (suc n + more) = omega arith in
    ap (λ (m : ℕ). digits m n []) e ∙ sym (digits_room (suc n + more) n [] (omega arith)) ∙ digits-roomy more n

pub numeral_more : (v d : ℕ) → 1 ≤ v → d < 10 → numeral (v * 10 + d) ≡ numeral v ++ (figure d ∷ [])
unfolding numeral digits
numeral_more v d h l =
    let n = v * 10 + d in
    let q : n / 10 ≡ v = omega arith in
    let r : n % 10 ≡ d = omega arith in
    let m : n ≡ suc v + (n - suc v) = omega arith in
    rw (le-ltb n 10 (omega arith), q, r)
    (digits_behind n v (figure d ∷ []) ∙ ap (λ (l : List ℕ). l ++ (figure d ∷ [])) (ap (λ (k : ℕ). digits k v []) m ∙ digits-roomy (n - suc v) v))
