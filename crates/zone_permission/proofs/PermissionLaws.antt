-- C1h: the checks by operation, and what an accepted request leaves.
-- Assumes nothing.
use mathlib.Core.Path.{◌≡◌, refl, sym}
use mathlib.Core.Bool.{Bool, true, false, not, cond, ◌&&◌}
use mathlib.Core.List.{List, [], ◌∷◌, ◌++◌}
use Prim.Native.Nat.{ℕ, zero, suc, ◌+◌, ◌*◌, ◌≤◌, ◌<◌}
use native.Mathlib.Decide.{ℕ_discrete, dec_lt}
use native.Mathlib.Omega.{arith}
use borrow.Author.Tests.{eq-eqb, ne_eqb, lt-ltb, le-ltb, ltb-false}
use lib.Dec.{eqb, ltb}
use lib.ListN.{length, get_or, drop}
use Rattle.permit.specs.Permission.{set_both, groups}
use Rattle.permit.specs.Orders.{order, apply, batch_orders, rows_end}
use Rattle.permit.specs.History.{Zone, Valid}
use Rattle.permit.proofs.HistoryLaws.{valid_batch}
use Rattle.tables.specs.Refusals.{first_refusal}
use Rattle.tables.proofs.RefusalLaws.{clear, agrees_not}
use Rattle.requests.specs.Requests.{right, Leaves}
use Rattle.requests.proofs.RequestLaws.{leaves_done}
use Rattle.zone_permission.specs.ZonePermission.{operation, source, target, new_value, start_row, row_count, single_checks, batch_checks, operation_checks, permission_checks, orders_of, Accepted, permission_set, permission_reply}

-- ---- one past the last group that a batch names
pub ends_none : (start count : ℕ) → count ≡ 0 → 0 ≡ rows_end start count
unfolding rows_end
ends_none start zero e = refl
ends_none start (suc n) e = absurd (omega arith)

pub ends_some : (start count : ℕ) → (count ≡ 0 → ⊥) → start + count ≡ rows_end start count
unfolding rows_end
ends_some start zero n = absurd (n refl)
ends_some start (suc k) n = refl

-- ---- the checks of the operation, by each arm of the match
module _ (w : ℕ) (request : List ℕ) (r : ℕ) where
  pub picks_single : operation request ≡ 8 → r ≡ first_refusal (single_checks w request) → r ≡ first_refusal (operation_checks w request)
  unfolding operation_checks
  picks_single e h = rw (eq-eqb (operation request) 8 e) h

  pub picks_batch : operation request ≡ 9 → r ≡ first_refusal (batch_checks w request) → r ≡ first_refusal (operation_checks w request)
  unfolding operation_checks
  picks_batch e h = let n : operation request ≡ 8 → ⊥ = λ z. omega arith in rw (ne_eqb (operation request) 8 n, eq-eqb (operation request) 9 e) h

pub picks_none : (w : ℕ) (request : List ℕ) → (operation request ≡ 8 → ⊥) → (operation request ≡ 9 → ⊥) → 0x02 ≡ first_refusal (operation_checks w request)
unfolding operation_checks first_refusal
picks_none w request n m = rw (ne_eqb (operation request) 8 n, ne_eqb (operation request) 9 m)

-- and after the checks of every operation
pub then_operation : (w : ℕ) (phys permissions : List ℕ) (phy carried : ℕ) (request : List ℕ) (r : ℕ) (x : Bool) → x ≡ right w phys permissions phy carried → not x ≡ false
    → length request ≡ 4 + 4 * get_or request 3 0 → 12 ≤ length request → r ≡ first_refusal (operation_checks w request)
    → r ≡ first_refusal (permission_checks w phys permissions phy carried request)
unfolding first_refusal
then_operation w phys permissions phy carried request r x e h el l er =
    rw (agrees_not e h, eq-eqb (length request) (4 + 4 * get_or request 3 0) el, le-ltb (length request) 12 l) er

-- ---- what is known of an accepted request
pub accepted : (w : ℕ) (phys permissions : List ℕ) (phy carried : ℕ) (request : List ℕ) → 0 ≡ first_refusal (permission_checks w phys permissions phy carried request)
    → Accepted w request
unfolding first_refusal
accepted w phys permissions phy carried request e =
    go (not (right w phys permissions phy carried)) (eqb (length request) (4 + 4 * get_or request 3 0)) (ltb (length request) 12) refl e
  where
    go : (a b c : Bool) → c ≡ ltb (length request) 12 → 0 ≡ cond a 1 (cond (not b) 3 (cond c 3 (first_refusal (operation_checks w request)))) → Accepted w request
    go true b c ec h = absurd (omega arith)
    go false false c ec h = absurd (omega arith)
    go false true true ec h = absurd (omega arith)
    go false true false ec h = record { long = ltb-false (length request) 12 (sym ec); passed = sym h }

-- a single order names two groups from 2 on that the table holds
pub single-named : (w : ℕ) (request : List ℕ) → operation request ≡ 8 → Accepted w request → Zone w (source request) × Zone w (target request)
unfolding operation_checks
single-named w request e a =
    let c = clear (single_checks w request) 0 (rw (eq-eqb (operation request) 8 e) at (sym a.passed)) refl tt in ((omega arith, omega arith), (omega arith, omega arith))

-- the operation of an accepted request that is not single is batch
not_other : (w : ℕ) (request : List ℕ) → (operation request ≡ 8 → ⊥) → Accepted w request → operation request ≡ 9
unfolding operation_checks first_refusal
not_other w request n a = go (ℕ_discrete (operation request) 9)
  where
    go : Dec (operation request ≡ 9) → operation request ≡ 9
    go (yes e) = e
    go (no m) = let h : ◌≡◌ {A = ℕ} 0 2 = rw (ne_eqb (operation request) 8 n, ne_eqb (operation request) 9 m) at (sym a.passed) in absurd (omega arith)

-- its rows are in the request, and its groups in the table
pub record Rows (w : ℕ) (request : List ℕ) : Type 0 where
  pub whole : length request ≡ 12 + 16 * row_count request
  pub within : start_row request + row_count request ≤ 128
  pub named : (start_row request < 2 → row_count request ≡ 0)
  pub held : rows_end (start_row request) (row_count request) ≤ groups w

pub batch-named : (w : ℕ) (request : List ℕ) → (operation request ≡ 8 → ⊥) → Accepted w request → Rows w request
unfolding operation_checks
batch-named w request n a =
    let e = not_other w request n a in
    let c = clear (batch_checks w request) 0 (rw (ne_eqb (operation request) 8 n, eq-eqb (operation request) 9 e) at (sym a.passed)) refl tt in
    record { whole = c.0; within = c.1.0; named = low (start_row request) (row_count request) c.1.1.0; held = c.1.1.1.0 }
  where
    low : (s k : ℕ) → (ltb s 2 && ltb 0 k) ≡ false → s < 2 → k ≡ 0
    low s k h l = let p : ltb 0 k ≡ false = rw (lt-ltb s 2 l) at h in omega (arith, ltb-false 0 k p)

-- ---- the orders of an accepted request are valid, and are what is written
valid_rows : (w : ℕ) (rows : List ℕ) (start k : ℕ) → rows_end start k ≤ groups w → (start < 2 → k ≡ 0) → Valid w (batch_orders w rows start 0 k)
unfolding batch_orders rows_end
valid_rows w rows start zero l n = tt
valid_rows w rows start (suc k) l n = go (dec_lt start 2)
  where
    go : Dec (start < 2) → Valid w (batch_orders w rows start 0 (suc k))
    go (yes h) = absurd (omega (arith, n h))
    go (no h) = valid_batch w rows start 0 (suc k) (omega arith) (omega arith)

pub valid_orders : (w : ℕ) (request : List ℕ) → Accepted w request → Valid w (orders_of w request)
unfolding orders_of
valid_orders w request a = go (ℕ_discrete (operation request) 8)
  where
    go : Dec (operation request ≡ 8)
        → Valid w (cond (eqb (operation request) 8) (order (source request) (target request) (new_value request) ∷ [])
        (batch_orders w (drop 12 request) (start_row request) 0 (row_count request)))
    go (yes e) = rw (eq-eqb (operation request) 8 e) (single-named w request e a, tt)
    go (no n) =
        let r = batch-named w request n a in
        rw (ne_eqb (operation request) 8 n) (valid_rows w (drop 12 request) (start_row request) (row_count request) r.held r.named)

module _ (w : ℕ) (request t u : List ℕ) where
  pub obeys_single : operation request ≡ 8 → u ≡ set_both w t (source request) (target request) (new_value request) → u ≡ apply w (orders_of w request) t
  unfolding orders_of apply
  obeys_single e h = rw (eq-eqb (operation request) 8 e) h

  pub obeys_batch : (operation request ≡ 8 → ⊥) → u ≡ apply w (batch_orders w (drop 12 request) (start_row request) 0 (row_count request)) t
      → u ≡ apply w (orders_of w request) t
  unfolding orders_of
  obeys_batch n h = rw (ne_eqb (operation request) 8 n) h

-- ---- the accepted end of the rule
pub leaves_orders : (w : ℕ) (phys permissions : List ℕ) (phy carried : ℕ) (request response set permissions₁ response₁ set₁ : List ℕ)
    → 0 ≡ first_refusal (permission_checks w phys permissions phy carried request)
    → permissions₁ ≡ apply w (orders_of w request) permissions
    → response₁ ≡ (0x41 ∷ 0xc1 ∷ 0x00 ∷ 0 ∷ []) ++ drop 4 response → set₁ ≡ permission_set phys request ++ drop 16 set
    → Leaves 0xc1 (permission_reply w phys permissions phy carried request) response set 0x00 4 phys permissions₁ response₁ set₁
unfolding permission_reply
leaves_orders w phys permissions phy carried request response set permissions₁ response₁ set₁ e ep er es =
    leaves_done 0xc1 _ _ phys permissions response set 0x00 4 phys permissions₁ response₁ set₁ e
    (record { answered = refl; counted = refl; phys_then = refl; permissions_then = ep; responded = er; told = es })
