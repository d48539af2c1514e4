-- The rule that the function byte picks: what it leaves, how long its response is, and what becomes of the permission table.
-- Assumes nothing.
use mathlib.Core.Path.{◌≡◌, refl, sym, ap, ◌∙◌}
use mathlib.Core.Bool.{Bool, true, false, cond}
use mathlib.Core.List.{List, []}
use Prim.Native.Nat.{ℕ, zero, suc, ◌/◌, ◌%◌, ◌≤◌, ◌<◌}
use native.Mathlib.Decide.{ℕ_discrete}
use native.Mathlib.Omega.{arith}
use borrow.Author.Tests.{eq-eqb, ne_eqb, le-ltb, ltb-true, ltb-false}
use lib.Dec.{eqb, ltb}
use lib.ListN.{length, get_or, drop, length-append}
use Rattle.wire.proofs.Sets.{length-set_of}
use Rattle.permit.specs.Orders.{apply}
use Rattle.tables.specs.Refusals.{first_refusal}
use Rattle.tables.specs.Phys.{ready_set, empty_set}
use Rattle.requests.specs.Requests.{Reply, turned_down, replied, Leaves}
use Rattle.phy_zone.specs.PhyZone.{phy_zone_reply}
use Rattle.zone_permission.specs.ZonePermission.{permission_checks, permission_set, permission_reply, orders_of}
use Rattle.zone_report.specs.ZoneReport.{report_reply}
use Rattle.zone_report.proofs.ReportLaws.{report_dwords_most}
use Rattle.discover.specs.declared.Changes.{Changes}
use Rattle.discover.specs.Discover.{asked_phy, discover_reply}
use Rattle.discover.proofs.DiscoverLaws.{length-description}
use Rattle.rules.specs.Rules.{function_of, smp_reply, length_field}

-- ---- the rule that the function byte picks
module _ (w : ℕ) (phys permissions : List ℕ) (phy carried : ℕ) (changes : Changes) (request : List ℕ) where
  abbrev F : ℕ
  F = function_of request

  pub is_93 : F ≡ 0x93 → smp_reply w phys permissions phy carried changes request ≡ phy_zone_reply w phys permissions phy carried request
  unfolding smp_reply
  is_93 e = rw (eq-eqb F 0x93 e)

  pub is_c1 : F ≡ 0xc1 → smp_reply w phys permissions phy carried changes request ≡ permission_reply w phys permissions phy carried request
  unfolding smp_reply
  is_c1 e = let n : F ≡ 0x93 → ⊥ = λ z. omega arith in rw (ne_eqb F 0x93 n, eq-eqb F 0xc1 e)

  pub is_51 : F ≡ 0x51 → smp_reply w phys permissions phy carried changes request ≡ report_reply w phys permissions phy carried request
  unfolding smp_reply
  is_51 e =
      let n : F ≡ 0x93 → ⊥ = λ z. omega arith in
      let m : F ≡ 0xc1 → ⊥ = λ z. omega arith in
      rw (ne_eqb F 0x93 n, ne_eqb F 0xc1 m, eq-eqb F 0x51 e)

  pub is_10 : F ≡ 0x10 → smp_reply w phys permissions phy carried changes request ≡ discover_reply w phys permissions phy carried changes request
  unfolding smp_reply
  is_10 e =
      let n : F ≡ 0x93 → ⊥ = λ z. omega arith in
      let m : F ≡ 0xc1 → ⊥ = λ z. omega arith in
      let k : F ≡ 0x51 → ⊥ = λ z. omega arith in
      rw (ne_eqb F 0x93 n, ne_eqb F 0xc1 m, ne_eqb F 0x51 k, eq-eqb F 0x10 e)

  pub is_none : (F ≡ 0x93 → ⊥) → (F ≡ 0xc1 → ⊥) → (F ≡ 0x51 → ⊥) → (F ≡ 0x10 → ⊥)
      → smp_reply w phys permissions phy carried changes request ≡ turned_down 0x01 phys permissions
  unfolding smp_reply
  is_none n m k j = rw (ne_eqb F 0x93 n, ne_eqb F 0xc1 m, ne_eqb F 0x51 k, ne_eqb F 0x10 j)

  -- what the arms leave
  module _ (response set : List ℕ) (r len : ℕ) (phys₁ permissions₁ response₁ set₁ : List ℕ) where
    abbrev Done : Type 0
    Done = Leaves F (smp_reply w phys permissions phy carried changes request) response set r len phys₁ permissions₁ response₁ set₁

    carry : (f : ℕ) (p : Reply) → F ≡ f → smp_reply w phys permissions phy carried changes request ≡ p
        → Leaves f p response set r len phys₁ permissions₁ response₁ set₁ → Leaves F (smp_reply w phys permissions phy carried changes request) response set r len phys₁ permissions₁ response₁ set₁
    carry f p e q l = rw (e, q) l

    pub leaves_93 : F ≡ 0x93 → Leaves 0x93 (phy_zone_reply w phys permissions phy carried request) response set r len phys₁ permissions₁ response₁ set₁
        → Leaves F (smp_reply w phys permissions phy carried changes request) response set r len phys₁ permissions₁ response₁ set₁
    leaves_93 e l = carry 0x93 _ e (is_93 e) l

    pub leaves_c1 : F ≡ 0xc1 → Leaves 0xc1 (permission_reply w phys permissions phy carried request) response set r len phys₁ permissions₁ response₁ set₁
        → Leaves F (smp_reply w phys permissions phy carried changes request) response set r len phys₁ permissions₁ response₁ set₁
    leaves_c1 e l = carry 0xc1 _ e (is_c1 e) l

    pub leaves_51 : F ≡ 0x51 → Leaves 0x51 (report_reply w phys permissions phy carried request) response set r len phys₁ permissions₁ response₁ set₁
        → Leaves F (smp_reply w phys permissions phy carried changes request) response set r len phys₁ permissions₁ response₁ set₁
    leaves_51 e l = carry 0x51 _ e (is_51 e) l

    pub leaves_10 : F ≡ 0x10 → Leaves 0x10 (discover_reply w phys permissions phy carried changes request) response set r len phys₁ permissions₁ response₁ set₁
        → Leaves F (smp_reply w phys permissions phy carried changes request) response set r len phys₁ permissions₁ response₁ set₁
    leaves_10 e l = carry 0x10 _ e (is_10 e) l

    pub leaves_none : (F ≡ 0x93 → ⊥) → (F ≡ 0xc1 → ⊥) → (F ≡ 0x51 → ⊥) → (F ≡ 0x10 → ⊥)
        → Leaves F (turned_down 0x01 phys permissions) response set r len phys₁ permissions₁ response₁ set₁
        → Leaves F (smp_reply w phys permissions phy carried changes request) response set r len phys₁ permissions₁ response₁ set₁
    leaves_none n m k j l = carry F _ refl (is_none n m k j) l

  -- ---- by cases on the function byte, once for every law of the reply
  each : (Q : Reply → Type 0) → Q (phy_zone_reply w phys permissions phy carried request) → Q (permission_reply w phys permissions phy carried request)
      → Q (report_reply w phys permissions phy carried request) → Q (discover_reply w phys permissions phy carried changes request)
      → Q (turned_down 0x01 phys permissions) → Q (smp_reply w phys permissions phy carried changes request)
  unfolding smp_reply
  each Q a b c d e = go (eqb F 0x93) (eqb F 0xc1) (eqb F 0x51) (eqb F 0x10)
    where
      go : (x y z u : Bool)
          → Q (cond x (phy_zone_reply w phys permissions phy carried request) (cond y (permission_reply w phys permissions phy carried request)
          (cond z (report_reply w phys permissions phy carried request) (cond u (discover_reply w phys permissions phy carried changes request)
          (turned_down 0x01 phys permissions)))))
      go true y z u = a
      go false true z u = b
      go false false true u = c
      go false false false true = d
      go false false false false = e

-- ---- laws of every reply
-- of an accepted and of a turned-down one
either : (Q : Reply → Type 0) (n : ℕ) (p : Reply) (phys permissions : List ℕ) → Q p → ((m : ℕ) → Q (turned_down (suc m) phys permissions)) → Q (replied n p phys permissions)
unfolding replied
either Q zero p phys permissions a d = a
either Q (suc n) p phys permissions a d = d n

empty_16 : length empty_set ≡ 16
unfolding empty_set
empty_16 = refl

ready_16 : (phys : List ℕ) → length (ready_set phys) ≡ 16
unfolding ready_set
ready_16 phys = length-set_of _

update_16 : (phys request : List ℕ) → length (permission_set phys request) ≡ 16
update_16 phys request = go (eqb (get_or request 9 0 % 2) 1)
  where
    go : (b : Bool) → length (cond b (ready_set phys) empty_set) ≡ 16
    go true = ready_16 phys
    go false = empty_16

-- its set has sixteen bytes
pub set_16 : (w : ℕ) (phys permissions : List ℕ) (phy carried : ℕ) (changes : Changes) (request : List ℕ) → length (smp_reply w phys permissions phy carried changes request).set ≡ 16
unfolding phy_zone_reply permission_reply report_reply discover_reply
set_16 w phys permissions phy carried changes request =
    each w phys permissions phy carried changes request (λ p. length p.set ≡ 16)
    (either (λ p. length p.set ≡ 16) _ _ phys permissions (ready_16 phys) (λ m. empty_16))
    (either (λ p. length p.set ≡ 16) _ _ phys permissions (update_16 phys request) (λ m. empty_16))
    (either (λ p. length p.set ≡ 16) _ _ phys permissions empty_16 (λ m. empty_16))
    (either (λ p. length p.set ≡ 16) _ _ phys permissions empty_16 (λ m. empty_16))
    empty_16

-- ---- the length field: only a report's could pass 255
module _ (w : ℕ) (phys permissions : List ℕ) (phy carried : ℕ) (changes : Changes) (request : List ℕ) where
  pub long_51 : (r : ℕ) → function_of request ≡ 0x51 → r ≡ length (report_reply w phys permissions phy carried request).rest / 4
      → ltb 255 r ≡ ltb 255 (length_field w phys permissions phy carried changes request)
  unfolding length_field
  long_51 r e h = rw (is_51 w phys permissions phy carried changes request e) (ap (ltb 255) h)

  pub long_none : (function_of request ≡ 0x51 → ⊥) → false ≡ ltb 255 (length_field w phys permissions phy carried changes request)
  unfolding length_field smp_reply phy_zone_reply permission_reply discover_reply
  long_none n = rw (ne_eqb (function_of request) 0x51 n) (go (eqb (function_of request) 0x93) (eqb (function_of request) 0xc1) (eqb (function_of request) 0x10))
    where
      short : (k m : ℕ) (p : Reply) → m ≤ 104 → length p.rest ≡ m → false ≡ ltb 255 (length (replied k p phys permissions).rest / 4)
      short k m p h e = either (λ q. false ≡ ltb 255 (length q.rest / 4)) k p phys permissions (sym (le-ltb 255 (length p.rest / 4) (omega arith))) (λ j. refl)

      go : (x y z : Bool)
          → false ≡ ltb 255 (length (cond x (phy_zone_reply w phys permissions phy carried request) (cond y (permission_reply w phys permissions phy carried request)
          (cond z (discover_reply w phys permissions phy carried changes request) (turned_down 0x01 phys permissions)))).rest / 4)
      go true y z = short _ 0 _ (omega arith) refl
      go false true z = short _ 0 _ (omega arith) refl
      go false false true = short _ 104 _ (omega arith) (length-description phys (asked_phy request) changes)
      go false false false = refl

-- so none does: a report's is at most 254
pub field_most : (w : ℕ) (phys permissions : List ℕ) (phy carried : ℕ) (changes : Changes) (request : List ℕ) → length_field w phys permissions phy carried changes request ≤ 255
field_most w phys permissions phy carried changes request = ltb-false _ _ (go (ℕ_discrete (function_of request) 0x51))
  where
    go : Dec (function_of request ≡ 0x51) → ltb 255 (length_field w phys permissions phy carried changes request) ≡ false
    go (yes e) =
        sym (long_51 w phys permissions phy carried changes request _ e refl)
        ∙ le-ltb 255 (length (report_reply w phys permissions phy carried request).rest / 4) (omega (arith, report_dwords_most w phys permissions phy carried request))
    go (no n) = sym (long_none w phys permissions phy carried changes request n)

-- as the code has it: b is whether it passes 255, whatever the counts are
module _ (w : ℕ) (phys permissions : List ℕ) (phy carried : ℕ) (request : List ℕ) (b : Bool)
    (e : (k : Changes) → b ≡ ltb 255 (length_field w phys permissions phy carried k request)) (changes : Changes) where
  pub passes : b ≡ true → 255 < length_field w phys permissions phy carried changes request
  passes h = ltb-true _ _ (sym (e changes) ∙ h)

  pub stays_within : b ≡ false → length_field w phys permissions phy carried changes request ≤ 255
  stays_within h = ltb-false _ _ (sym (e changes) ∙ h)

-- the set that a rule leaves has sixteen bytes at least
pub told_long : (w : ℕ) (phys permissions : List ℕ) (phy carried : ℕ) (changes : Changes) (request response set : List ℕ) (result written : ℕ) (phys₁ permissions₁ response₁ set₁ : List ℕ)
    → Leaves (function_of request) (smp_reply w phys permissions phy carried changes request) response set result written phys₁ permissions₁ response₁ set₁ → 16 ≤ length set₁
told_long w phys permissions phy carried changes request response set result written phys₁ permissions₁ response₁ set₁ l =
    omega (arith, ap length l.told, length-append (smp_reply w phys permissions phy carried changes request).set (drop 16 set), set_16 w phys permissions phy carried changes request)

-- ---- the permission table
-- a reply whose permission table is the one handed in, whatever its result
same_table : (n : ℕ) (p : Reply) (phys permissions : List ℕ) → p.permissions ≡ permissions → (replied n p phys permissions).permissions ≡ permissions
same_table n p phys permissions e = either (λ q. q.permissions ≡ permissions) n p phys permissions e (λ m. refl)

module _ (w : ℕ) (phys permissions : List ℕ) (phy carried : ℕ) (changes : Changes) (request : List ℕ) where
  pub other_table : (function_of request ≡ 0xc1 → ⊥) → (smp_reply w phys permissions phy carried changes request).permissions ≡ permissions
  unfolding smp_reply phy_zone_reply report_reply discover_reply
  other_table n = rw (ne_eqb (function_of request) 0xc1 n) (go (eqb (function_of request) 0x93) (eqb (function_of request) 0x51) (eqb (function_of request) 0x10))
    where
      go : (x z u : Bool)
          → (cond x (phy_zone_reply w phys permissions phy carried request) (cond z (report_reply w phys permissions phy carried request)
          (cond u (discover_reply w phys permissions phy carried changes request) (turned_down 0x01 phys permissions)))).permissions ≡ permissions
      go true z u = same_table _ _ phys permissions refl
      go false true u = same_table _ _ phys permissions refl
      go false false true = same_table _ _ phys permissions refl
      go false false false = refl

  -- C1h: the orders at 00h, and nothing at any other result
  pub order_table : function_of request ≡ 0xc1
      → (smp_reply w phys permissions phy carried changes request).permissions
      ≡ apply w (cond (eqb (smp_reply w phys permissions phy carried changes request).result 0) (orders_of w request) []) permissions
  unfolding permission_reply apply
  order_table e = rw (is_c1 w phys permissions phy carried changes request e) (either
      (λ q. q.permissions ≡ apply w (cond (eqb q.result 0) (orders_of w request) []) permissions)
      (first_refusal (permission_checks w phys permissions phy carried request)) _ phys permissions refl
      (λ m. rw (ne_eqb (suc m) 0 (λ z. omega arith))))

  -- a reply to C1h whose result is 00h is to a request that its checks let pass
  pub passed : function_of request ≡ 0xc1 → (smp_reply w phys permissions phy carried changes request).result ≡ 0
      → first_refusal (permission_checks w phys permissions phy carried request) ≡ 0
  unfolding permission_reply replied
  passed e z = go (first_refusal (permission_checks w phys permissions phy carried request)) _ (rw (is_c1 w phys permissions phy carried changes request e) at z)
    where
      go : (n : ℕ) (p : Reply) → (replied n p phys permissions).result ≡ 0 → n ≡ 0
      go zero p h = refl
      go (suc n) p h = h

-- ---- a request that is turned down: four response bytes, a zero set, no table changed
module _ (w : ℕ) (phys permissions : List ℕ) (phy carried : ℕ) (changes : Changes) (request : List ℕ) where
  pub down : ((smp_reply w phys permissions phy carried changes request).result ≡ 0 → ⊥)
      → smp_reply w phys permissions phy carried changes request ≡ turned_down (smp_reply w phys permissions phy carried changes request).result phys permissions
  unfolding phy_zone_reply permission_reply report_reply discover_reply
  down =
      each w phys permissions phy carried changes request Down
      (either Down _ _ phys permissions (λ h. absurd (h refl)) (λ m h. refl))
      (either Down _ _ phys permissions (λ h. absurd (h refl)) (λ m h. refl))
      (either Down _ _ phys permissions (λ h. absurd (h refl)) (λ m h. refl))
      (either Down _ _ phys permissions (λ h. absurd (h refl)) (λ m h. refl))
      (λ h. refl)
    where
      Down : Reply → Type 0
      Down q = (q.result ≡ 0 → ⊥) → q ≡ turned_down q.result phys permissions
