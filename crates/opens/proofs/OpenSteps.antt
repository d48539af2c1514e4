-- The ways out of the functions that judge and write a frame.
-- Assumes nothing.
use mathlib.Core.Path.{◌≡◌, refl, sym, ap, ◌∙◌}
use mathlib.Core.Bool.{Bool, true, false, not, ◌&&◌}
use mathlib.Core.List.{List, [], ◌∷◌, ◌++◌}
use Prim.Native.Nat.{ℕ, ◌+◌, ◌*◌, ◌/◌, ◌%◌, ◌<◌, ◌≤◌}
use native.Mathlib.Omega.{arith}
use borrow.Author.Tests.{leb-true, lt-ltb, le-ltb, not-true, not-false}
use mir.Syntax.{w8}
use mir.Val.{Fits}
use lib.ListN.{length, get_or, set, drop}
use lib.Seq.{paste, take_all, set-append_left}
use Rattle.permit.specs.Permission.{permissions_sized, reaches, Width, Table}
use Rattle.permit.proofs.Laws.{table_sized}
use Rattle.tables.specs.Refusals.{first_refusal}
use Rattle.tables.specs.Outcome.{out}
use Rattle.tables.proofs.OutcomeLaws.{gives}
use Rattle.tables.proofs.ArrivalLaws.{both, Arrived, arrival_clear}
use Rattle.wire.specs.declared.PhyNumber.{PhyNumber}
use Rattle.tables.specs.Phys.{phy_record, phy_count, phy_group, phy_priority, participating}
use Rattle.tables.specs.Ports.{same_port}
use Rattle.tables.specs.Routes.{routes_sized}
use Rattle.std.proofs.Common.{Option, Some, None, Ok}
use Rattle.searches.specs.declared.Destination.{Destination}
use Rattle.opens.specs.declared.Opened.{Opened}
use Rattle.opens.specs.declared.Opened.TheVariants.{NoDestination, BadDestination, ZoneViolation, Forward}
use Rattle.searches.specs.Search.{search}
use Rattle.opens.specs.Open.{opened_as, room_for, open_checks, open_source, judge, byte20, sent, open_out}
use Rattle.opens.proofs.OpenLaws.{source_lt}

-- ---- open_source
pub source_carried : (phys : List ℕ) (phy : ℕ) (frame : List ℕ) (b : Bool) (x : ℕ) → b ≡ participating phys phy → not b ≡ false → x ≡ get_or frame 20 0 % 128 → x ≡ open_source phys phy frame
unfolding open_source
source_carried phys phy frame b x e t ex = rw (sym e ∙ not-false b t) ex

pub source_own : (phys : List ℕ) (phy : ℕ) (frame : List ℕ) (b : Bool) (x : ℕ) → b ≡ participating phys phy → not b ≡ true → x ≡ phy_group phys phy → x ≡ open_source phys phy frame
unfolding open_source
source_own phys phy frame b x e t ex = rw (sym e ∙ not-true b t) ex

-- ---- byte20
pub carried_fits : (phys : List ℕ) (phy : ℕ) (frame : List ℕ) (s x : ℕ) → s ≡ open_source phys phy frame → x < 256 → Fits w8 (x / 128 * 128 + s)
carried_fits phys phy frame s x e h = omega (arith, source_lt phys phy frame)

pub managed_fits : (phys : List ℕ) (phy : ℕ) (frame : List ℕ) (s : ℕ) → s ≡ open_source phys phy frame → Fits w8 (128 + s)
managed_fits phys phy frame s e = omega (arith, source_lt phys phy frame)

module _ (phys : List ℕ) (phy : ℕ) (frame : List ℕ) (to : ℕ) (t : Bool) (et : t ≡ participating phys to) where
  pub cleared : not t ≡ true → 0 ≡ byte20 phys phy frame to
  unfolding byte20
  cleared h = rw (sym et ∙ not-true t h)

  pub carried : (b : Bool) (s : ℕ) → not t ≡ false → b ≡ participating phys phy → b ≡ true → s ≡ open_source phys phy frame → get_or frame 20 0 / 128 * 128 + s ≡ byte20 phys phy frame to
  unfolding byte20
  carried b s h e k es = rw (sym et ∙ not-false t h, sym e ∙ k, es)

  pub managed : (b : Bool) (s m : ℕ) → not t ≡ false → b ≡ participating phys phy → b ≡ false → m ≡ phy_priority phys phy → 0 < m → s ≡ open_source phys phy frame → 128 + s ≡ byte20 phys phy frame to
  unfolding byte20
  managed b s m h e k em l es =
      let g : 0 < phy_priority phys phy = omega arith in
      rw (sym et ∙ not-false t h, sym e ∙ k, lt-ltb _ _ g, es)

  pub unmanaged : (b : Bool) (s m : ℕ) → not t ≡ false → b ≡ participating phys phy → b ≡ false → m ≡ phy_priority phys phy → m ≤ 0 → s ≡ open_source phys phy frame → s ≡ byte20 phys phy frame to
  unfolding byte20
  unmanaged b s m h e k em l es =
      let g : phy_priority phys phy ≤ 0 = omega arith in
      rw (sym et ∙ not-false t h, sym e ∙ k, le-ltb _ _ g, es) (omega arith)

-- ---- write_frame: the frame is copied, then byte 20 is stored
pub write_end : (frame s₀ s : List ℕ) (x : ℕ) → length frame ≡ 28 → s ≡ paste s₀ 0 (drop 0 frame) 28 → set s 20 x ≡ set frame 20 x ++ drop 28 s₀
write_end frame s₀ s x l e =
    ap (λ (m : List ℕ). set m 20 x) (e ∙ ap (λ (m : List ℕ). m ++ drop 28 s₀) (take_all 28 frame (omega arith)))
    ∙ set-append_left frame (drop 28 s₀) 20 x (omega arith)

-- ---- admit
module _ (w : ℕ) (phys permissions : List ℕ) (phy : ℕ) (frame : List ℕ) (d : Destination) (o : Bool) (eo : o ≡ same_port phys phy d.phy.0) where
  pub admit_bad : o ≡ true → BadDestination ≡ judge w phys permissions phy frame (Some d)
  unfolding judge
  admit_bad h = rw (sym eo ∙ h)

  module _ (n : o ≡ false) (s : ℕ) (es : s ≡ open_source phys phy frame) (b : Bool) (eb : b ≡ reaches w permissions s d.group.0) where
    pub admit_violation : not b ≡ true → ZoneViolation ≡ judge w phys permissions phy frame (Some d)
    unfolding judge
    admit_violation h = rw (sym eo ∙ n, ← es, sym eb ∙ not-true b h)

    pub admit_forward : not b ≡ false → Forward d.phy ≡ judge w phys permissions phy frame (Some d)
    unfolding judge
    admit_forward h = rw (sym eo ∙ n, ← es, sym eb ∙ not-false b h)

pub sent_forward : (phys : List ℕ) (phy : ℕ) (frame buffer : List ℕ) (p : PhyNumber) (x : ℕ) (after : List ℕ) → x ≡ byte20 phys phy frame p.0 → after ≡ set frame 20 x ++ drop 28 buffer
    → after ≡ sent phys phy frame buffer (Forward p)
unfolding sent
sent_forward phys phy frame buffer p x after ex ea = rw (← ex) ea

-- ---- open: where the checks let it pass; f is what the search gave
module _ (w : ℕ) (phys routes permissions : List ℕ) (phy : ℕ) (frame buffer : List ℕ) (e : 0 ≡ first_refusal (open_checks w phys routes permissions phy frame (room_for buffer))) where
  clears : Arrived phys phy (routes_sized routes && permissions_sized w permissions) (room_for buffer) true × (length frame ≡ 28)
  clears =
      let k = arrival_clear phys phy (routes_sized routes && permissions_sized w permissions) (room_for buffer) true _ 0 e refl tt in
      (k.0, k.1.0)

  pub open_most : length phys ≤ 128 * phy_record
  open_most = clears.0.most

  pub open_there : phy < phy_count phys
  open_there = clears.0.there

  pub open_table : Width w → Table w permissions
  open_table h = table_sized w permissions h (both (routes_sized routes) (permissions_sized w permissions) clears.0.sized).1

  pub open_frame : length frame ≡ 28
  open_frame = clears.1

  pub open_room : 28 ≤ length buffer
  open_room = leb-true _ _ clears.0.roomy

  module _ (f : Option Destination) (ef : f ≡ search phys routes frame) where
    pub open_none : f ≡ None → out (opened_as (Ok NoDestination)) (buffer ∷ []) ≡ open_out w phys routes permissions phy frame buffer
    unfolding judge sent
    open_none h =
        let s : search phys routes frame ≡ None = sym ef ∙ h in
        gives _ _ _ _ _ _ e (rw s) (rw s)

    pub open_to : (d : Destination) (r : Opened) (after : List ℕ) → f ≡ Some d → r ≡ judge w phys permissions phy frame (Some d) → after ≡ sent phys phy frame buffer r
        → out (opened_as (Ok r)) (after ∷ []) ≡ open_out w phys routes permissions phy frame buffer
    open_to d r after h er ea =
        let s : search phys routes frame ≡ Some d = sym ef ∙ h in
        gives _ _ _ _ _ _ e (rw (er, s)) (rw (ea, er, s))
