-- What a batch says of each pair of groups, for any row width: a later row has its way, and a pair that no row is of stays.
-- Assumes nothing.
use mathlib.Core.Path.{◌≡◌, refl, ap, ◌∙◌}
use mathlib.Core.Bool.{Bool, true, false, cond, ◌&&◌}
use mathlib.Core.List.{List}
use mathlib.Core.Logic.{◌⊎◌, inl, inr}
use Prim.Native.Nat.{ℕ, zero, suc, ◌+◌, ◌-◌, ◌≤◌, ◌<◌}
use native.Mathlib.Decide.{ℕ_discrete}
use native.Mathlib.Omega.{arith}
use borrow.Author.Tests.{eq-eqb, ne_eqb}
use lib.Dec.{eqb}
use lib.ListN.{length}
use Rattle.permit.specs.Permission.{groups, table_size, P}
use Rattle.permit.specs.Orders.{apply, row_orders, batch_orders}
use Rattle.permit.specs.History.{names, Zone, latest}
use Rattle.permit.proofs.HistoryLaws.{latest-append, latest_swap, within, P-apply, valid_batch}

-- ---- what a row says of a pair
-- in row r, an order at j names {r, d} where j is d
names_hit : (r d : ℕ) → names r d r d ≡ true
unfolding names
names_hit r d = rw (eq-eqb r r refl, eq-eqb d d refl)

names_miss : (r j d : ℕ) → (d ≡ j → ⊥) → names r j r d ≡ false
unfolding names
names_miss r j d n = rw (eq-eqb r r refl, ne_eqb d j n) (go (ℕ_discrete r j))
  where
    go : Dec (r ≡ j) → (eqb r j && eqb d r) ≡ false
    go (yes e) = rw (eq-eqb r j e, ne_eqb d r (λ z. n (z ∙ e)))
    go (no m) = rw (ne_eqb r j m)

names_away : (r j c d : ℕ) → (c ≡ r → ⊥) → (d ≡ r → ⊥) → names r j c d ≡ false
unfolding names
names_away r j c d nc nd = rw (ne_eqb c r nc, ne_eqb d r nd) (go (eqb c j))
  where
    go : (x : Bool) → (x && false) ≡ false
    go true = refl
    go false = refl

pub row_past : (f : ℕ → Bool) (r j n d : ℕ) (x : Bool) → d < j → latest (row_orders f r j n) r d x ≡ x
unfolding latest row_orders
row_past f r j zero d x h = refl
row_past f r j (suc n) d x h =
    row_past f r (suc j) n d (cond (names r j r d) (f j) x) (omega arith) ∙ rw (names_miss r j d (λ e. omega arith))

pub row_hit : (f : ℕ → Bool) (r j n d : ℕ) (x : Bool) → j ≤ d → d < j + n → latest (row_orders f r j n) r d x ≡ f d
unfolding latest row_orders
row_hit f r j zero d x l h = absurd (omega arith)
row_hit f r j (suc n) d x l h = go (row_hit f r (suc j) n d (cond (names r j r d) (f j) x)) (ℕ_discrete d j)
  where
    go : (suc j ≤ d → d < suc j + n → latest (row_orders f r (suc j) n) r d (cond (names r j r d) (f j) x) ≡ f d) → Dec (d ≡ j)
        → latest (row_orders f r (suc j) n) r d (cond (names r j r d) (f j) x) ≡ f d
    go next (no m) = next (omega arith) (omega arith)
    go next (yes e) =
        row_past f r (suc j) n d (cond (names r j r d) (f j) x) (omega arith) ∙ rw (← e) (rw (names_hit r d))

pub row_away : (f : ℕ → Bool) (r j n c d : ℕ) (x : Bool) → (c ≡ r → ⊥) → (d ≡ r → ⊥) → latest (row_orders f r j n) c d x ≡ x
unfolding latest row_orders
row_away f r j zero c d x nc nd = refl
row_away f r j (suc n) c d x nc nd =
    row_away f r (suc j) n c d (cond (names r j c d) (f j) x) nc nd ∙ rw (names_away r j c d nc nd)

-- ---- what a batch says of a pair
-- no row from i on, of n rows, is the group c's
abbrev Out : ℕ → ℕ → ℕ → ℕ → Type 0
Out start i n c = (c < start + i) ⊎ (start + i + n ≤ c)

out_next : (start i n c : ℕ) → Out start i (suc n) c → Out start (suc i) n c
out_next start i n c (inl h) = inl (omega arith)
out_next start i n c (inr h) = inr (omega arith)

out_here : (start i n c : ℕ) → Out start i (suc n) c → c ≡ start + i → ⊥
out_here start i n c (inl h) e = omega arith
out_here start i n c (inr h) e = omega arith

module _ (w : ℕ) (rows : List ℕ) (start : ℕ) where
  -- a pair of which neither is a row's group stays
  pub batch_away : (i n c d : ℕ) (x : Bool) → Out start i n c → Out start i n d → latest (batch_orders w rows start i n) c d x ≡ x
  unfolding latest batch_orders
  batch_away i zero c d x oc od = refl
  batch_away i (suc n) c d x oc od =
      latest-append (row_orders (P 16 rows i) (start + i) 2 (groups w - 2)) (batch_orders w rows start (suc i) n) c d x
      ∙ batch_away (suc i) n c d (latest (row_orders (P 16 rows i) (start + i) 2 (groups w - 2)) c d x) (out_next start i n c oc) (out_next start i n d od)
      ∙ row_away (P 16 rows i) (start + i) 2 (groups w - 2) c d x (out_here start i n c oc) (out_here start i n d od)

  -- a row's group c, and a group d that is no later row's: the row's bit
  pub batch_row : (i n c d : ℕ) (x : Bool) → Zone w d → start + i ≤ c → c < start + i + n → (d ≤ c) ⊎ (start + i + n ≤ d)
      → latest (batch_orders w rows start i n) c d x ≡ P 16 rows (c - start) d
  unfolding latest batch_orders
  batch_row i zero c d x zd l h o = absurd (omega arith)
  batch_row i (suc n) c d x zd l h o =
      latest-append (row_orders (P 16 rows i) (start + i) 2 (groups w - 2)) (batch_orders w rows start (suc i) n) c d x
      ∙ go (batch_row (suc i) n c d y zd) (ℕ_discrete c (start + i)) o
    where
      y : Bool
      y = latest (row_orders (P 16 rows i) (start + i) 2 (groups w - 2)) c d x

      later : c ≡ start + i → (d ≤ c) ⊎ (start + i + suc n ≤ d) → Out start (suc i) n d
      later e (inl s) = inl (omega arith)
      later e (inr s) = inr (omega arith)

      next : (d ≤ c) ⊎ (start + i + suc n ≤ d) → (d ≤ c) ⊎ (start + suc i + n ≤ d)
      next (inl s) = inl s
      next (inr s) = inr (omega arith)

      go : (start + suc i ≤ c → c < start + suc i + n → (d ≤ c) ⊎ (start + suc i + n ≤ d)
          → latest (batch_orders w rows start (suc i) n) c d y ≡ P 16 rows (c - start) d)
          → Dec (c ≡ start + i) → (d ≤ c) ⊎ (start + i + suc n ≤ d) → latest (batch_orders w rows start (suc i) n) c d y ≡ P 16 rows (c - start) d
      go rest (no m) s = rest (omega arith) (omega arith) (next s)
      go rest (yes e) s =
          batch_away (suc i) n c d y (inl (omega arith)) (later e s)
          ∙ rw e (row_hit (P 16 rows i) (start + i) 2 (groups w - 2) d x zd.0 (omega arith) ∙ ap (λ (k : ℕ). P 16 rows k d) (omega arith))

-- ---- the table after a batch of the groups start, start + 1, .., k of them
module _ (w : ℕ) (rows : List ℕ) (start k : ℕ) (low : 2 ≤ start) (top : start + k ≤ groups w) (t : List ℕ) (hl : length t ≡ table_size w) where
  after : (c d : ℕ) → d < groups w
      → P w (apply w (batch_orders w rows start 0 k) t) c d ≡ latest (batch_orders w rows start 0 k) c d (P w t c d)
  after c d hd =
      P-apply w (batch_orders w rows start 0 k) (within w (batch_orders w rows start 0 k) (valid_batch w rows start 0 k low (omega arith))) t hl c d hd

  -- row c's bit d, at (c, d) and at (d, c), where d is no later row's group
  pub batch_sets : (c d : ℕ) → start ≤ c → c < start + k → Zone w d → (d ≤ c) ⊎ (start + k ≤ d)
      → (P w (apply w (batch_orders w rows start 0 k) t) c d ≡ P 16 rows (c - start) d)
      × (P w (apply w (batch_orders w rows start 0 k) t) d c ≡ P 16 rows (c - start) d)
  batch_sets c d l h zd o =
      let o' : (d ≤ c) ⊎ (start + 0 + k ≤ d) = more o in (
        after c d zd.1 ∙ batch_row w rows start 0 k c d (P w t c d) zd (omega arith) (omega arith) o',
        after d c (omega arith)
            ∙ latest_swap (batch_orders w rows start 0 k) d c (P w t d c)
            ∙ batch_row w rows start 0 k c d (P w t d c) zd (omega arith) (omega arith) o',
      )
    where
      more : (d ≤ c) ⊎ (start + k ≤ d) → (d ≤ c) ⊎ (start + 0 + k ≤ d)
      more (inl s) = inl s
      more (inr s) = inr (omega arith)

  -- a pair of which neither is a row's group is as it was
  pub batch_keeps : (c d : ℕ) → d < groups w → (c < start) ⊎ (start + k ≤ c) → (d < start) ⊎ (start + k ≤ d)
      → P w (apply w (batch_orders w rows start 0 k) t) c d ≡ P w t c d
  batch_keeps c d hd oc od = after c d hd ∙ batch_away w rows start 0 k c d (P w t c d) (more c oc) (more d od)
    where
      more : (e : ℕ) → (e < start) ⊎ (start + k ≤ e) → Out start 0 k e
      more e (inl s) = inl (omega arith)
      more e (inr s) = inr (omega arith)
