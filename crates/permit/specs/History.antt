-- The words of demand 3: what a list of orders says of two groups, and what a table says after any list of orders.
use Rattle.std.specs.Prelude.{◌≡◌, Bool, false, cond, ◌&&◌, ◌||◌, List, [], ◌∷◌, ◌⊎◌, ℕ, ◌≤◌, ◌<◌, eqb}
use Rattle.permit.specs.Permission.{groups, P, start_table}
use Rattle.permit.specs.Orders.{Order, order, apply}

-- "naming that pair, in either order": {c, d} is {a, b}
unfoldable pub names : ℕ → ℕ → ℕ → ℕ → Bool
names a b c d = (eqb c a && eqb d b) || (eqb c b && eqb d a)

-- "groups a, b from 2 to 127"
abbrev pub Zone : ℕ → ℕ → Type 0
Zone w a = (2 ≤ a) × (a < groups w)

-- every order names two such groups
abbrev pub Valid : ℕ → List Order → Type 0
Valid w [] = Unit
Valid w (order a b v ∷ os) = (Zone w a × Zone w b) × Valid w os

-- what the latest order that names {c, d} says, and x where none does
unfoldable pub latest : List Order → ℕ → ℕ → Bool → Bool
latest [] c d x = x
latest (order a b v ∷ os) c d x = latest os c d (cond (names a b c d) v x)

-- no order names {c, d}
abbrev pub Silent : List Order → ℕ → ℕ → Type 0
Silent [] c d = Unit
Silent (order a b v ∷ os) c d = (names a b c d ≡ false) × Silent os c d

-- the table says what the orders since start-up say
pub record Says (w : ℕ) (t : List ℕ) (os : List Order) : Type 0 where
  -- "permission is mutual"
  pub both_ways : (c d : ℕ) → c < groups w → d < groups w → P w t c d ≡ P w t d c
  -- "groups 0 and 1 stand as at start-up"
  pub low : (c d : ℕ) → c < groups w → d < groups w → (c < 2) ⊎ (d < 2) → P w t c d ≡ P w (start_table w) c d
  -- "for groups a, b from 2 to 127 permission is on exactly when the latest accepted order naming that pair, in either order, switched it
  -- on; with no order it is off"
  pub pairs : (c d : ℕ) → Zone w c → Zone w d → P w t c d ≡ latest os c d false
  pub unordered : (c d : ℕ) → Zone w c → Zone w d → Silent os c d → P w t c d ≡ false

-- demand 3, of the orders alone: after any list of orders from start-up
abbrev pub HistoryOfOrders : Type 0
HistoryOfOrders = (w : ℕ) (os : List Order) → Valid w os → Says w (apply w os (start_table w)) os
