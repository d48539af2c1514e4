-- What is promised of the small shelf, in its own numbers. It is what shelf/specs/Promises.antt and permit/specs say for every row width w, at
-- w = 1. Proved in proofs/Kept.antt. Quotes are of document 02.
use Rattle.std.specs.Prelude.{◌≡◌, false, ◌||◌, List, [], ◌∷◌, ◌⊎◌, ℕ, ◌≤◌, ◌<◌, eqb, length, get_or}
use Rattle.wire.specs.Bits.{bit}
use Rattle.permit.specs.Permission.{P, reaches}
use Rattle.permit.specs.History.{latest}
use Rattle.shelf.specs.Calls.{Call, start_up, run, orders}

-- "groups 0 to 7, one byte a row, bit j for group j"
abbrev pub ByteARow : Type 0
ByteARow = (t : List ℕ) (a j : ℕ) → j < 8 → P 1 t a j ≡ eqb (bit (get_or t a 0) j) 1

-- "Groups 8 to 127 reach only group 1 and are reached only by it", whatever the table holds
abbrev pub OnlyGroup1 : Type 0
OnlyGroup1 = (t : List ℕ) (a b : ℕ) → (8 ≤ a) ⊎ (8 ≤ b) → reaches 1 t a b ≡ (eqb a 1 || eqb b 1)

-- "Demand 3 speaks of groups 2 to 7 here": after start-up and any calls, permission between two of them is what the latest accepted order naming
-- that pair said, and off where there is none
abbrev pub Groups2To7 : Type 0
Groups2To7 =
    (t : List ℕ) (cs : List Call) → length t ≡ 8 → (a b : ℕ) → 2 ≤ a → a ≤ 7 → 2 ≤ b → b ≤ 7
    → reaches 1 (run 1 (start_up ∷ cs) t) a b ≡ latest (orders 1 (start_up ∷ cs) t []) a b false
