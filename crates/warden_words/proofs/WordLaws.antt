-- Two words that are the same.
-- Assumes nothing.
use mathlib.Core.Path.{◌≡◌, refl, ap}
use mathlib.Core.Bool.{true, ◌&&◌}
use mathlib.Core.List.{List, [], ◌∷◌}
use Prim.Native.Nat.{ℕ}
use native.Mathlib.Omega.{arith}
use lib.Dec.{eqb}
use lib.ListN.{length}
use Rattle.std.specs.Cmp.Lexicographic.{pointwise}
use Rattle.warden_words.specs.Words.{same}

pub pointwise-same : (a b : List ℕ) → pointwise eqb a b ≡ same a b
unfolding same
pointwise-same [] [] = refl
pointwise-same [] (y ∷ b) = refl
pointwise-same (x ∷ a) [] = refl
pointwise-same (x ∷ a) (y ∷ b) = ap (λ v. eqb x y && v) (pointwise-same a b)

pub lengths_of_same : (a b : List ℕ) → same a b ≡ true → length a ≡ length b
unfolding same
lengths_of_same [] [] e = refl
lengths_of_same [] (y ∷ b) e = grind arith
lengths_of_same (x ∷ a) [] e = grind arith
lengths_of_same (x ∷ a) (y ∷ b) e = grind (arith, lengths_of_same a b)
