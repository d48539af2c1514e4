-- "Numbered refusals, in order of checking", as data: a call's checks are a list of rows, a number and the test on which it is given.
use Rattle.std.specs.Prelude.{◌≡◌, Bool, false, cond, not, List, [], ◌∷◌, ℕ, ◌≤◌, ◌<◌, ltb, leb, eqb}

-- a test of two numbers, or that something is off or on
pub data Test : Type 0 where
  below : ℕ → ℕ → Test
  at_most : ℕ → ℕ → Test
  same : ℕ → ℕ → Test
  differ : ℕ → ℕ → Test
  off : Bool → Test
  on : Bool → Test

-- whether a test holds
abbrev pub holds : Test → Bool
holds (below a b) = ltb a b
holds (at_most a b) = leb a b
holds (same a b) = eqb a b
holds (differ a b) = not (eqb a b)
holds (off v) = not v
holds (on v) = v

-- a row: the number that is given where the test holds
pub data Check : Type 0 where
  refuse : ℕ → Test → Check

-- the first row whose test holds gives its number; 0 where none does
unfoldable pub first_refusal : List Check → ℕ
first_refusal [] = 0
first_refusal (refuse n t ∷ cs) = cond (holds t) n (first_refusal cs)

-- that a test does not hold, as a plain fact
abbrev pub Fails : Test → Type 0
Fails (below a b) = b ≤ a
Fails (at_most a b) = b < a
Fails (same a b) = a ≡ b → ⊥
Fails (differ a b) = a ≡ b
Fails (off v) = not v ≡ false
Fails (on v) = v ≡ false

-- no row's test holds: what a call's inner function may build on
abbrev pub Clear : List Check → Type 0
Clear [] = Unit
Clear (refuse n t ∷ cs) = Fails t × Clear cs
