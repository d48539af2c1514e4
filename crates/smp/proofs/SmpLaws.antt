-- SMP: the call's end, and the orders that it accepts.
-- Assumes nothing.
use mathlib.Core.Path.{◌≡◌, refl, sym, ap, ◌∙◌}
use mathlib.Core.Bool.{Bool, true, false, cond, ◌&&◌}
use mathlib.Core.List.{List, [], ◌∷◌}
use Prim.Native.Nat.{ℕ}
use native.Mathlib.Decide.{ℕ_discrete}
use native.Mathlib.Omega.{arith}
use borrow.Author.Tests.{leb-true, eq-eqb, ne_eqb}
use lib.Dec.{eqb, leb}
use lib.ListN.{length, drop}
use Rattle.wire.specs.PhySet.{phys_in}
use Rattle.wire.proofs.Sets.{count_front}
use Rattle.permit.specs.Permission.{permissions_sized, Width, Table}
use Rattle.permit.proofs.Laws.{table_sized}
use Rattle.permit.specs.Orders.{apply}
use Rattle.permit.specs.History.{Valid}
use Rattle.tables.specs.Refusals.{first_refusal}
use Rattle.tables.specs.Outcome.{answer, out, outcome}
use Rattle.tables.specs.Arrival.{arrival_checks}
use Rattle.tables.proofs.ArrivalLaws.{both, arrived, arrival_clear}
use Rattle.tables.proofs.OutcomeLaws.{gives}
use Rattle.requests.specs.Requests.{Lent, Leaves}
use Rattle.zone_permission.specs.ZonePermission.{orders_of}
use Rattle.zone_permission.proofs.PermissionLaws.{accepted, valid_orders}
use Rattle.discover.specs.declared.Changes.{Changes}
use Rattle.rules.specs.Rules.{function_of, smp_reply}
use Rattle.rules.proofs.RuleLaws.{set_16, other_table, order_table, passed}
use Rattle.smp.specs.Smp.{room_for, smp_checks, values_of, buffers_of, accepted_orders}

-- ---- the call
-- as the code has it: s is what was asked of the permission table's size
pub smp_table : (w : ℕ) (phys permissions : List ℕ) (phy : ℕ) (room s : Bool) → Width w → s ≡ permissions_sized w permissions
    → 0 ≡ first_refusal (arrival_checks phys phy s room true) → Table w permissions
smp_table w phys permissions phy room s h es e = table_sized w permissions h (sym es ∙ (arrived phys phy s room true 0 e refl).sized)

-- nothing is refused, whatever the counts are
module _ (w : ℕ) (phys permissions : List ℕ) (phy carried : ℕ) (request response set : List ℕ)
    (e : (k : Changes) → 0 ≡ first_refusal (smp_checks w phys permissions phy carried k request (room_for response set))) where
  pub smp_lent : Width w → Lent w phys permissions phy (length request) (length response) (length set)
  smp_lent h =
      let k = arrival_clear phys phy (permissions_sized w permissions) (room_for response set) true _ 0 (e (record { expander = 0; phy = 0 })) refl tt in
      let room = both (leb 1020 (length response)) (leb 16 (length set)) k.0.roomy in
      let q = k.1 in
      record {
        records = k.0.records;
        most = k.0.most;
        table = table_sized w permissions h k.0.sized;
        there = k.0.there;
        head = omega arith;
        response_room = leb-true _ _ room.0;
        set_room = leb-true _ _ room.1;
      }

  pub smp_gives : (changes : Changes) (result written count : ℕ) (old : List (List ℕ)) (phys₁ permissions₁ response₁ set₁ : List ℕ)
      → Leaves (function_of request) (smp_reply w phys permissions phy carried changes request) response set result written phys₁ permissions₁ response₁ set₁ → count ≡ phys_in set₁
      → out (answer (result ∷ written ∷ count ∷ [])) (phys₁ ∷ permissions₁ ∷ response₁ ∷ set₁ ∷ [])
      ≡ outcome (first_refusal (smp_checks w phys permissions phy carried changes request (room_for response set)))
      (values_of (smp_reply w phys permissions phy carried changes request)) old
      (buffers_of (function_of request) (smp_reply w phys permissions phy carried changes request) response set)
  smp_gives changes result written count old phys₁ permissions₁ response₁ set₁ l ec =
      let h : count ≡ phys_in (smp_reply w phys permissions phy carried changes request).set =
      ec ∙ ap phys_in l.told ∙ count_front _ (drop 16 set) (set_16 w phys permissions phy carried changes request) in
      gives _ _ _ _ _ _ (e changes) (values l.answered l.counted h) (buffers l.phys_then l.permissions_then l.responded l.told)
    where
      values : {a b c d f g : ℕ} → a ≡ b → c ≡ d → f ≡ g → answer (a ∷ c ∷ f ∷ []) ≡ answer (b ∷ d ∷ g ∷ [])
      values p q t = cc

      buffers : {a b c d f g h k : List ℕ} → a ≡ b → c ≡ d → f ≡ g → h ≡ k → ◌≡◌ {A = List (List ℕ)} (a ∷ c ∷ f ∷ h ∷ []) (b ∷ d ∷ g ∷ k ∷ [])
      buffers p q t u = cc

-- the permission table after the call
unfoldable pub permissions_after : ℕ → List ℕ → List ℕ → ℕ → ℕ → Changes → List ℕ → Bool → List ℕ
permissions_after w phys permissions phy carried changes request room =
    cond (eqb (first_refusal (smp_checks w phys permissions phy carried changes request room)) 0)
    (smp_reply w phys permissions phy carried changes request).permissions
    permissions

-- ---- the orders that the call accepts
module _ (w : ℕ) (phys permissions : List ℕ) (phy carried : ℕ) (changes : Changes) (request : List ℕ) where
  -- the permission table after the call is the table before with the accepted orders applied
  pub orders_applied : (room : Bool)
      → permissions_after w phys permissions phy carried changes request room
      ≡ apply w (accepted_orders w phys permissions phy carried changes request room) permissions
  unfolding permissions_after accepted_orders apply
  orders_applied room =
      go (eqb (first_refusal (smp_checks w phys permissions phy carried changes request room)) 0) (ℕ_discrete (function_of request) 0xc1)
    where
      go : (x : Bool) → Dec (function_of request ≡ 0xc1)
          → cond x (smp_reply w phys permissions phy carried changes request).permissions permissions
          ≡ apply w (cond (x && (eqb (function_of request) 0xc1 && eqb (smp_reply w phys permissions phy carried changes request).result 0)) (orders_of w request) []) permissions
      go false d = refl
      go true (yes e) = rw (eq-eqb (function_of request) 0xc1 e) (order_table w phys permissions phy carried changes request e)
      go true (no n) = rw (ne_eqb (function_of request) 0xc1 n) (other_table w phys permissions phy carried changes request n)

  -- the accepted orders name groups from 2 to 127
  pub orders_valid : (room : Bool) → Valid w (accepted_orders w phys permissions phy carried changes request room)
  unfolding accepted_orders
  orders_valid room =
      go (eqb (first_refusal (smp_checks w phys permissions phy carried changes request room)) 0) (ℕ_discrete (function_of request) 0xc1)
      (ℕ_discrete (smp_reply w phys permissions phy carried changes request).result 0)
    where
      go : (x : Bool) → Dec (function_of request ≡ 0xc1) → Dec ((smp_reply w phys permissions phy carried changes request).result ≡ 0)
          → Valid w (cond (x && (eqb (function_of request) 0xc1 && eqb (smp_reply w phys permissions phy carried changes request).result 0)) (orders_of w request) [])
      go false d f = tt
      go true (no n) f = rw (ne_eqb (function_of request) 0xc1 n) tt
      go true (yes e) (no n) = rw (eq-eqb (function_of request) 0xc1 e, ne_eqb (smp_reply w phys permissions phy carried changes request).result 0 n) tt
      go true (yes e) (yes z) =
          rw (eq-eqb (function_of request) 0xc1 e, eq-eqb (smp_reply w phys permissions phy carried changes request).result 0 z)
          (valid_orders w request (accepted w phys permissions phy carried request (sym (passed w phys permissions phy carried changes request e z))))
