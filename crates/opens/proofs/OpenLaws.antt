-- What an OPEN frame may reach: it is forwarded only where the permission is on.
-- Assumes nothing.
use mathlib.Core.Path.{◌≡◌, refl, sym, ap, ◌∙◌}
use mathlib.Core.Bool.{Bool, true, false, cond}
use mathlib.Core.List.{List}
use Prim.Native.Nat.{ℕ, ◌%◌, ◌<◌}
use native.Mathlib.Omega.{arith}
use lib.ListN.{get_or}
use Rattle.wire.specs.declared.PhyNumber.{PhyNumber}
use Rattle.wire.specs.declared.ZoneGroup.{ZoneGroup}
use Rattle.permit.specs.Permission.{reaches}
use Rattle.tables.specs.Phys.{phy_group, participating}
use Rattle.tables.specs.Ports.{same_port}
use Rattle.std.proofs.Common.{Option, Some, None}
use Rattle.searches.specs.declared.Destination.{Destination}
use Rattle.opens.specs.declared.Opened.TheVariants.{BadDestination, ZoneViolation, Forward}
use Rattle.searches.specs.Search.{search}
use Rattle.opens.specs.Open.{open_source, judge, opened}

-- ---- the source group is a group
source_cond : (c : Bool) (x y : ℕ) → x < 128 → y < 128 → cond c x y < 128
source_cond true x y h l = h
source_cond false x y h l = l

pub source_lt : (phys : List ℕ) (phy : ℕ) (frame : List ℕ) → open_source phys phy frame < 128
unfolding open_source
source_lt phys phy frame = source_cond (participating phys phy) (get_or frame 20 0 % 128) (phy_group phys phy) (omega arith) (omega arith)

-- ---- a frame that is forwarded
module _ (w : ℕ) (phys permissions : List ℕ) (phy : ℕ) (frame : List ℕ) (p : PhyNumber) where
  -- it went out on p by the finding f
  abbrev Reached : Option Destination → Type 0
  Reached f =
      (g : ZoneGroup) × (f ≡ Some (record { phy = p; group = g })) × (reaches w permissions (open_source phys phy frame) g.0 ≡ true) × (same_port phys phy p.0 ≡ false)

  by_tests : (d : Destination) (a b : Bool) → same_port phys phy d.phy.0 ≡ a → reaches w permissions (open_source phys phy frame) d.group.0 ≡ b
      → cond a BadDestination (cond b (Forward d.phy) ZoneViolation) ≡ Forward p → Reached (Some d)
  by_tests d true b ea eb e = let z : ◌≡◌ {A = ℕ} 0 1 = cc in absurd (omega arith)
  by_tests d false false ea eb e = let z : ◌≡◌ {A = ℕ} 0 1 = cc in absurd (omega arith)
  by_tests d false true ea eb e =
      let s : d.phy ≡ p = cc in
      (d.group, ap (λ (x : PhyNumber). Some (record { phy = x; group = d.group })) s, eb, ap (λ (x : PhyNumber). same_port phys phy x.0) (sym s) ∙ ea)

  reached : (f : Option Destination) → judge w phys permissions phy frame f ≡ Forward p → Reached f
  unfolding judge
  reached None e = let z : ◌≡◌ {A = ℕ} 0 1 = cc in absurd (omega arith)
  reached (Some d) e = by_tests d (same_port phys phy d.phy.0) (reaches w permissions (open_source phys phy frame) d.group.0) refl refl e

module _ (w : ℕ) (phys routes permissions : List ℕ) (phy : ℕ) (frame : List ℕ) where
  -- the phy that the search found, by a permission that is on, and not back to the arriving phy's port
  pub forward_permitted : (p : PhyNumber) → opened w phys routes permissions phy frame ≡ Forward p
      → (g : ZoneGroup) × (search phys routes frame ≡ Some (record { phy = p; group = g })) × (reaches w permissions (open_source phys phy frame) g.0 ≡ true) × (same_port phys phy p.0 ≡ false)
  forward_permitted p e = reached w phys permissions phy frame p (search phys routes frame) e

  -- where the permission is off nothing is forwarded, on no phy
  pub barred : (d : Destination) → search phys routes frame ≡ Some d → reaches w permissions (open_source phys phy frame) d.group.0 ≡ false
      → (q : PhyNumber) → opened w phys routes permissions phy frame ≡ Forward q → ⊥
  barred d s off q e =
      let r = forward_permitted q e in
      let found : Some d ≡ Some (record { phy = q; group = r.0 }) = sym s ∙ r.1 in
      let same : d.group ≡ r.0 = cc found in
      let on : reaches w permissions (open_source phys phy frame) d.group.0 ≡ true = ap (λ (x : ZoneGroup). reaches w permissions (open_source phys phy frame) x.0) same ∙ r.2 in
      let z : ◌≡◌ {A = ℕ} 0 1 = cc in
      omega arith
