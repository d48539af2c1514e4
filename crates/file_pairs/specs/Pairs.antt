-- Document 02, request 08: "records of two bytes, groups a and b with 2 <= a <= b <= 127, strictly ascending, one for each permitted pair". Said over
-- the row width w: the small shelf's groups end at 7.
use Rattle.std.specs.Prelude.{Bool, true, false, cond, ◌&&◌, List, [], ◌∷◌, ℕ, suc, ◌+◌, ◌-◌, ◌*◌, leb, ltb}
use Rattle.wire.specs.Runs.{texts}
use Rattle.permit.specs.Permission.{groups, P, start_table}
use Rattle.permit.specs.Orders.{Order, order, apply}

-- "records of two bytes .. one for each permitted pair"
unfoldable pub pair_record : ℕ → List ℕ → ℕ → ℕ → List ℕ
pair_record w t a b = cond (P w t a b) (a ∷ b ∷ []) []

-- group a with every b from a on
unfoldable pub row_records : ℕ → List ℕ → ℕ → List ℕ
row_records w t a = texts (pair_record w t a) a (groups w - a)

-- "with 2 <= a <= b <= 127": a table's records
unfoldable pub pairs_of : ℕ → List ℕ → List ℕ
pairs_of w t = texts (row_records w t) 2 (groups w - 2)

-- "ascending (by a, then b)": a pair as one number, by which pairs ascend, as b is below 128
abbrev pub code : ℕ → ℕ → ℕ
code a b = 128 * a + b

-- the record of a and b is in range, and behind all pairs below the number `low`
unfoldable pub in_place : ℕ → ℕ → ℕ → ℕ → Bool
in_place w low a b = leb 2 a && (leb a b && (ltb b (groups w) && leb low (code a b)))

-- "a pair out of range or order" is not there: every record is in range and, "strictly", behind the one before; a byte by itself is no record
unfoldable pub ascending : ℕ → ℕ → List ℕ → Bool
ascending w low [] = true
ascending w low (a ∷ []) = false
ascending w low (a ∷ b ∷ rs) = in_place w low a b && ascending w (suc (code a b)) rs

-- "a switch-on of each listed pair"
unfoldable pub orders_of : List ℕ → List Order
orders_of [] = []
orders_of (a ∷ []) = []
orders_of (a ∷ b ∷ rs) = order a b true ∷ orders_of rs

-- "a load that isn't refused counts as start-up and then a switch-on of each listed pair"
unfoldable pub loaded : ℕ → List ℕ → List ℕ
loaded w rs = apply w (orders_of rs) (start_table w)
