-- Rows made of a function of row and group are read as that function: those that the console packs, and those that a shelf of any row width shows.
-- Assumes nothing.
use mathlib.Core.Path.{◌≡◌, refl, sym, ap, ap₂, ◌∙◌}
use mathlib.Core.Bool.{Bool}
use mathlib.Core.List.{List, ◌∷◌, ◌++◌}
use Prim.Native.Nat.{ℕ, zero, suc, ◌+◌, ◌-◌, ◌*◌, ◌/◌, ◌%◌, ◌≤◌, ◌<◌}
use native.Mathlib.Nat.{zero-add}
use native.Mathlib.Omega.{arith}
use lib.Dec.{eqb}
use lib.ListN.{length, get_or, drop}
use lib.Seq.{get_or-append-add, get_or-drop}
use Rattle.wire.specs.Bits.{num, bit, tab}
use Rattle.wire.specs.PhySet.{set_byte, set_of, member}
use Rattle.wire.proofs.Loops.{get_or-tab}
use Rattle.wire.proofs.Sets.{member-set_of}
use Rattle.permit.specs.Permission.{groups, place, P}
use Rattle.permit.specs.Orders.{Order, order, row_orders, batch_orders}
use Rattle.console_orders.specs.Building.{twelve}
use Rattle.console_rows.specs.Batches.{choice_rows, chosen, packed, batch_request}
use Rattle.console.specs.Asks.{chosen_orders}

-- bit j mod 8 of the set byte j / 8
set-bit : (f : ℕ → Bool) (j : ℕ) → j < 128 → eqb (bit (set_byte f (j / 8)) (j % 8)) 1 ≡ f j
unfolding member set_of
set-bit f j h =
    ap (λ (x : ℕ). eqb (bit x (j % 8)) 1) (sym (get_or-tab (set_byte f) 0 16 (j / 8) (omega arith) ∙ ap (set_byte f) (zero-add (j / 8))))
    ∙ member-set_of f j h

-- sixteen bytes a row, behind a head of twelve
pub rows_read : (f : ℕ → ℕ → Bool) (head : List ℕ) (from n i j : ℕ) → length head ≡ 12 → i < n → j < 128
    → P 16 (drop 12 (head ++ tab (λ m. set_byte (f (m / 16)) (15 - m % 16)) (16 * from) (16 * n))) i j ≡ f (from + i) j
unfolding P place
rows_read f head from n i j l hi hj =
    let byte : ℕ → ℕ = λ m. set_byte (f (m / 16)) (15 - m % 16) in
    let at : ℕ = i * 16 + (16 - 1 - j / 8) in
    let row : (16 * from + (i * 16 + (16 - 1 - j / 8))) / 16 ≡ from + i = omega arith in
    let place : 15 - (16 * from + (i * 16 + (16 - 1 - j / 8))) % 16 ≡ j / 8 = omega arith in
    let got : get_or (drop 12 (head ++ tab byte (16 * from) (16 * n))) at 0 ≡ set_byte (f (from + i)) (j / 8) =
    get_or-drop 12 (head ++ tab byte (16 * from) (16 * n)) at 0
    ∙ ap (λ (m : ℕ). get_or (head ++ tab byte (16 * from) (16 * n)) (m + at) 0) (sym l)
    ∙ get_or-append-add head (tab byte (16 * from) (16 * n)) at 0
    ∙ get_or-tab byte (16 * from) (16 * n) at (omega arith)
    ∙ rw (row, place) in
    ap (λ (x : ℕ). eqb (bit x (j % 8)) 1) got ∙ set-bit (f (from + i)) j hj

-- a batch's rows are read as they were chosen
pub packed_read : (start i j : ℕ) (choices : List ℕ) (complete : Bool) → i < choice_rows choices → j < 128
    → P 16 (drop 12 (batch_request start choices complete)) i j ≡ chosen choices i j
unfolding batch_request packed
packed_read start i j choices complete hi hj =
    rows_read (chosen choices) (twelve (2 + 4 * choice_rows choices) 0 0 (0x90 + num complete) start (choice_rows choices)) 0 (choice_rows choices) i j refl hi hj
    ∙ ap (λ (m : ℕ). chosen choices m j) (zero-add i)

-- so they are the orders that the choices name, of the groups that the table holds
row_same : (f g : ℕ → Bool) (r j n : ℕ) → ((k : ℕ) → j ≤ k → k < j + n → f k ≡ g k) → row_orders f r j n ≡ row_orders g r j n
unfolding row_orders
row_same f g r j zero h = refl
row_same f g r j (suc n) h =
    ap₂ (λ (v : Bool) (os : List Order). order r j v ∷ os) (h j (omega arith) (omega arith)) (row_same f g r (suc j) n (λ k l u. h k (omega arith) (omega arith)))

pub rows_same : (w : ℕ) → w ≤ 16 → (rows choices : List ℕ) (start i n : ℕ) → ((m j : ℕ) → i ≤ m → m < i + n → j < 128 → P 16 rows m j ≡ chosen choices m j)
    → batch_orders w rows start i n ≡ chosen_orders w choices start i n
unfolding batch_orders chosen_orders
rows_same w b rows choices start i zero h = refl
rows_same w b rows choices start i (suc n) h =
    ap₂ (λ (a b : List Order). a ++ b)
    (row_same (P 16 rows i) (chosen choices i) (start + i) 2 (groups w - 2) (λ k l u. h i k (omega arith) (omega arith) (omega arith)))
    (rows_same w b rows choices start (suc i) n (λ m j l u b. h m j (omega arith) (omega arith) b))
