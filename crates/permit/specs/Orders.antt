-- Orders as data, and what a list of them does to the table.
use Rattle.std.specs.Prelude.{Bool, List, [], ◌∷◌, ◌++◌, ℕ, zero, suc, ◌+◌, ◌-◌}
use Rattle.permit.specs.Permission.{groups, P, set_both}

-- groups a and b: permission on, or off
pub data Order : Type 0 where
  order : ℕ → ℕ → Bool → Order

-- the orders done to the table, first to last
unfoldable pub apply : ℕ → List Order → List ℕ → List ℕ
apply w [] t = t
apply w (order a b v ∷ os) t = apply w os (set_both w t a b v)

-- row r as orders, by its bits f: groups j, j + 1, .., n of them
unfoldable pub row_orders : (ℕ → Bool) → ℕ → ℕ → ℕ → List Order
row_orders f r j zero = []
row_orders f r j (suc n) = order r j (f j) ∷ row_orders f r (suc j) n

-- "Rows are taken in order. Row r sets, for every j from 2 to 127, both (r,j) and (j,r); its bits for 0 and 1 are ignored; a later
-- row overrides." The rows i, i + 1, .., n of them, of a request's rows, which are sixteen bytes each; row i is the group start + i's.
unfoldable pub batch_orders : ℕ → List ℕ → ℕ → ℕ → ℕ → List Order
batch_orders w rows start i zero = []
batch_orders w rows start i (suc n) = row_orders (P 16 rows i) (start + i) 2 (groups w - 2) ++ batch_orders w rows start (suc i) n

-- one past the last group that a batch of count rows from start on has a row for; 0 where it has none
unfoldable pub rows_end : ℕ → ℕ → ℕ
rows_end start zero = 0
rows_end start (suc n) = start + suc n
