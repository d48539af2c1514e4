-- What a list of orders does to the table, for any row width, and the theorem on any history: of two groups the latest order that names them.
-- Assumes nothing.
use mathlib.Core.Path.{◌≡◌, refl, sym, ap, ◌∙◌}
use mathlib.Core.Bool.{Bool, true, false, cond, ◌&&◌, ◌||◌}
use mathlib.Core.List.{List, [], ◌∷◌, ◌++◌}
use mathlib.Core.Logic.{◌⊎◌, inl, inr}
use Prim.Native.Nat.{ℕ, zero, suc, ◌+◌, ◌-◌, ◌≤◌, ◌<◌}
use native.Mathlib.Numerals.{add-one}
use native.Mathlib.Omega.{arith}
use borrow.Author.Tests.{ne_eqb}
use lib.Dec.{eqb}
use lib.ListN.{length}
use Rattle.wire.proofs.Loops.{left}
use Rattle.permit.specs.Permission.{groups, table_size, P, set_both, start_table}
use Rattle.permit.specs.Orders.{Order, order, apply, row_orders, batch_orders}
use Rattle.permit.specs.History.{names, Zone, Valid, latest, Silent, HistoryOfOrders}
use Rattle.permit.proofs.Laws.{P_both, P-start, Bytes, bytes_both, length-set_both, length-start, Mutual, mutual_both, mutual_start, names_swap}

-- ---- `latest` is the latest
pub latest_none : (os : List Order) (c d : ℕ) (x : Bool) → Silent os c d → latest os c d x ≡ x
unfolding latest
latest_none [] c d x h = refl
latest_none (order a b v ∷ os) c d x h = latest_none os c d (cond (names a b c d) v x) h.1 ∙ rw h.0

pub latest-append : (xs ys : List Order) (c d : ℕ) (x : Bool) → latest (xs ++ ys) c d x ≡ latest ys c d (latest xs c d x)
unfolding latest
latest-append [] ys c d x = refl
latest-append (order a b v ∷ xs) ys c d x = latest-append xs ys c d (cond (names a b c d) v x)

pub latest-found : (xs ys : List Order) (a b c d : ℕ) (v x : Bool) → names a b c d ≡ true → Silent ys c d
    → latest (xs ++ order a b v ∷ ys) c d x ≡ v
unfolding latest
latest-found xs ys a b c d v x e h =
    latest-append xs (order a b v ∷ ys) c d x ∙ latest_none ys c d (cond (names a b c d) v (latest xs c d x)) h ∙ rw e

pub latest_swap : (os : List Order) (c d : ℕ) (x : Bool) → latest os c d x ≡ latest os d c x
unfolding latest
latest_swap [] c d x = refl
latest_swap (order a b v ∷ os) c d x =
    latest_swap os c d (cond (names a b c d) v x) ∙ ap (λ (y : Bool). latest os d c (cond y v x)) (names_swap a b c d)

-- ---- the table after the orders
pub apply-append : (w : ℕ) (xs ys : List Order) (t : List ℕ) → apply w (xs ++ ys) t ≡ apply w ys (apply w xs t)
unfolding apply
apply-append w [] ys t = refl
apply-append w (order a b v ∷ xs) ys t = apply-append w xs ys (set_both w t a b v)

pub length-apply : (w : ℕ) (os : List Order) (t : List ℕ) → length (apply w os t) ≡ length t
unfolding apply
length-apply w [] t = refl
length-apply w (order a b v ∷ os) t = length-apply w os (set_both w t a b v) ∙ length-set_both w t a b v

pub bytes_apply : (w : ℕ) (os : List Order) (t : List ℕ) → Bytes t → Bytes (apply w os t)
unfolding apply
bytes_apply w [] t h = h
bytes_apply w (order a b v ∷ os) t h = bytes_apply w os (set_both w t a b v) (bytes_both w t a b v h)

-- every order names two groups that there are
abbrev pub Within : ℕ → List Order → Type 0
Within w [] = Unit
Within w (order a b v ∷ os) = ((a < groups w) × (b < groups w)) × Within w os

pub within : (w : ℕ) (os : List Order) → Valid w os → Within w os
within w [] ok = tt
within w (order a b v ∷ os) ok = ((ok.0.0.1, ok.0.1.1), within w os ok.1)

pub P-apply : (w : ℕ) (os : List Order) → Within w os → (t : List ℕ) → length t ≡ table_size w → (c d : ℕ) → d < groups w
    → P w (apply w os t) c d ≡ latest os c d (P w t c d)
unfolding apply latest
P-apply w [] ok t hl c d hd = refl
P-apply w (order a b v ∷ os) ok t hl c d hd =
    P-apply w os ok.1 (set_both w t a b v) (length-set_both w t a b v ∙ hl) c d hd
    ∙ ap (latest os c d) (P_both w t a b c d v hl ok.0.0 ok.0.1 hd)

pub mutual_apply : (w : ℕ) (os : List Order) → Within w os → (t : List ℕ) → length t ≡ table_size w → Mutual w t → Mutual w (apply w os t)
unfolding apply
mutual_apply w [] ok t hl h = h
mutual_apply w (order a b v ∷ os) ok t hl h =
    mutual_apply w os ok.1 (set_both w t a b v) (length-set_both w t a b v ∙ hl) (mutual_both w t a b v hl ok.0.0 ok.0.1 h)

-- ---- no order names group 0 or 1
pub names_low : (w a b c d : ℕ) → Zone w a → Zone w b → (c < 2) ⊎ (d < 2) → names a b c d ≡ false
unfolding names
names_low w a b c d za zb (inl h) = rw (ne_eqb c a (λ e. omega arith), ne_eqb c b (λ e. omega arith))
names_low w a b c d za zb (inr h) =
    rw (ne_eqb d b (λ e. omega arith), ne_eqb d a (λ e. omega arith)) (neither (eqb c a) (eqb c b))
  where
    neither : (x y : Bool) → ((x && false) || (y && false)) ≡ false
    neither true true = refl
    neither true false = refl
    neither false true = refl
    neither false false = refl

silent_low : (w : ℕ) (os : List Order) → Valid w os → (c d : ℕ) → (c < 2) ⊎ (d < 2) → Silent os c d
silent_low w [] ok c d h = tt
silent_low w (order a b v ∷ os) ok c d h = (names_low w a b c d ok.0.0 ok.0.1 h, silent_low w os ok.1 c d h)

-- so groups 0 and 1 keep what they had
pub low_kept : (w : ℕ) (os : List Order) → Valid w os → (t : List ℕ) → length t ≡ table_size w → (c d : ℕ) → d < groups w → (c < 2) ⊎ (d < 2)
    → P w (apply w os t) c d ≡ P w t c d
low_kept w os ok t hl c d hd h = P-apply w os (within w os ok) t hl c d hd ∙ latest_none os c d (P w t c d) (silent_low w os ok c d h)

-- ---- demand 3, of the orders alone
-- of two groups from 2 on, the latest order that names them
pair_says : (w : ℕ) (os : List Order) → Valid w os → (c d : ℕ) → Zone w c → Zone w d → P w (apply w os (start_table w)) c d ≡ latest os c d false
pair_says w os ok c d zc zd =
    P-apply w os (within w os ok) (start_table w) (length-start w) c d zd.1
    ∙ ap (latest os c d) (P-start w c d zc.1 zd.1 ∙ rw (ne_eqb c 1 (λ e. omega arith), ne_eqb d 1 (λ e. omega arith)))

pub history : HistoryOfOrders
history w os ok = record {
  both_ways = mutual_apply w os (within w os ok) (start_table w) (length-start w) (mutual_start w);
  low = λ c d hc hd h. low_kept w os ok (start_table w) (length-start w) c d hd h;
  pairs = pair_says w os ok;
  unordered = λ c d zc zd s. pair_says w os ok c d zc zd ∙ latest_none os c d false s;
}

-- ---- a loop over a batch's rows: what is left to do, done to the table as it is, gives what the whole batch gives
batch_step : (w : ℕ) (rows : List ℕ) (start i k : ℕ) (t : List ℕ) → i < k
    → apply w (batch_orders w rows start i (k - i)) t
    ≡ apply w (batch_orders w rows start (i + 1) (k - (i + 1))) (apply w (row_orders (P 16 rows i) (start + i) 2 (groups w - 2)) t)
unfolding batch_orders
batch_step w rows start i k t h =
    rw (left k i h, add-one i)
    (apply-append w (row_orders (P 16 rows i) (start + i) 2 (groups w - 2)) (batch_orders w rows start (suc i) (k - suc i)) t)

batch_end : (w : ℕ) (rows : List ℕ) (start i k : ℕ) (t : List ℕ) → k ≤ i → apply w (batch_orders w rows start i (k - i)) t ≡ t
unfolding apply batch_orders
batch_end w rows start i k t h = let e : k - i ≡ 0 = omega arith in rw e

pub record BatchLeft (w : ℕ) (rows : List ℕ) (start k : ℕ) (t₀ t : List ℕ) (i : ℕ) : Type 0 where
  pub up_to : i ≤ k
  pub sized : length t ≡ table_size w
  pub rest : apply w (batch_orders w rows start i (k - i)) t ≡ apply w (batch_orders w rows start 0 k) t₀

module _ (w : ℕ) (rows : List ℕ) (start k : ℕ) where
  pub batch_again : (t₀ t t' : List ℕ) (i : ℕ) → i < k → t' ≡ apply w (row_orders (P 16 rows i) (start + i) 2 (groups w - 2)) t
      → BatchLeft w rows start k t₀ t i → BatchLeft w rows start k t₀ t' (i + 1)
  batch_again t₀ t t' i h e l = record {
    up_to = omega arith;
    sized = ap length e ∙ length-apply w _ t ∙ l.sized;
    rest = rw e (sym (batch_step w rows start i k t h) ∙ l.rest);
  }

  pub batch_done : (t₀ t : List ℕ) (i : ℕ) → k ≤ i → BatchLeft w rows start k t₀ t i → t ≡ apply w (batch_orders w rows start 0 k) t₀
  batch_done t₀ t i h l = sym (batch_end w rows start i k t h) ∙ l.rest

-- ---- the orders of a row and of a batch are valid
pub valid_append : (w : ℕ) (xs ys : List Order) → Valid w xs → Valid w ys → Valid w (xs ++ ys)
valid_append w [] ys hx hy = hy
valid_append w (order a b v ∷ xs) ys hx hy = (hx.0, valid_append w xs ys hx.1 hy)

pub valid_row : (w : ℕ) (f : ℕ → Bool) (r j n : ℕ) → Zone w r → 2 ≤ j → j + n ≤ groups w → Valid w (row_orders f r j n)
unfolding row_orders
valid_row w f r j zero zr h l = tt
valid_row w f r j (suc n) zr h l = ((zr, (h, omega arith)), valid_row w f r (suc j) n zr (omega arith) (omega arith))

pub valid_batch : (w : ℕ) (rows : List ℕ) (start i n : ℕ) → 2 ≤ start → start + i + n ≤ groups w → Valid w (batch_orders w rows start i n)
unfolding batch_orders
valid_batch w rows start i zero h l = tt
valid_batch w rows start i (suc n) h l =
    valid_append w (row_orders (P 16 rows i) (start + i) 2 (groups w - 2)) (batch_orders w rows start (suc i) n)
    (valid_row w (P 16 rows i) (start + i) 2 (groups w - 2) (omega arith, omega arith) (omega arith) (omega arith))
    (valid_batch w rows start (suc i) n h (omega arith))
