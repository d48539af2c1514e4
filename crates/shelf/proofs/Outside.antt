-- Groups from outside: no call that carries a byte above 127 on a participating phy is answered; on another phy it is not read; a route record
-- with one is as good as not there.
-- Assumes nothing.
use mathlib.Core.Path.{◌≡◌, refl, sym, ap, ◌∙◌}
use mathlib.Core.Bool.{Bool, true, false, not, ◌&&◌}
use mathlib.Core.List.{List}
use Prim.Native.Nat.{ℕ, zero, suc, ◌≤◌, ◌<◌}
use native.Mathlib.Decide.{dec_lt}
use native.Mathlib.Omega.{arith}
use borrow.Author.Tests.{not-false}
use Rattle.std.proofs.Common.{Option}
use Rattle.wire.specs.declared.ZoneGroup.{ZoneGroup}
use Rattle.wire.specs.Groups.{outside_group, is_group}
use Rattle.wire.proofs.GroupLaws.{taken_none, outside_none}
use lib.Dec.{leb}
use lib.ListN.{length}
use Rattle.permit.specs.Permission.{permissions_sized}
use Rattle.tables.specs.Outcome.{answer, out, outcome}
use Rattle.tables.specs.Phys.{participating}
use Rattle.tables.proofs.ArrivalLaws.{never, arrival_clear}
use Rattle.election.specs.Election.{nobody, best}
use Rattle.election.proofs.SkipLaws.{candidates_skip}
use Rattle.searches.proofs.SkipLaws.{search_skips}
use Rattle.broadcasts.specs.Broadcasts as broadcasts
use Rattle.requests.specs.Requests.{smp_source, right}
use Rattle.phy_zone.specs.PhyZone.{phy_zone_reply}
use Rattle.zone_permission.specs.ZonePermission.{permission_reply}
use Rattle.zone_report.specs.ZoneReport.{report_reply}
use Rattle.discover.specs.declared.Changes.{Changes}
use Rattle.discover.specs.Discover.{reaches_phy, shown, discover_reply}
use Rattle.rules.specs.Rules.{smp_reply, length_field}
use Rattle.smp.specs.Smp.{room_for, smp_out}
use Rattle.sheet_lines.specs.Line.{sheet_most}
use Rattle.imports.specs.Import.{import_out}
use Rattle.shelf.specs.Calls.{outcome_of}
use Rattle.shelf.specs.Promises.{NoGroupNoAnswer, CarriedUnread, Skipped}

-- ---- what is answered was not refused
unrefused : (m : ℕ) (values : List ℕ) (old new : List (List ℕ)) (vs : List ℕ) (bs : List (List ℕ)) → outcome m values old new ≡ out (answer vs) bs → m ≡ 0
unfolding outcome
unrefused zero values old new vs bs e = refl
unrefused (suc m) values old new vs bs e = let z : ◌≡◌ {A = ℕ} 0 1 = cc in absurd (omega arith)

-- a byte that is a group is 127 at most
group_most : (b : ℕ) → not (is_group (outside_group b)) ≡ false → b ≤ 127
group_most b e = go (dec_lt 127 b)
  where
    go : Dec (127 < b) → b ≤ 127
    go (yes h) = never (sym e ∙ taken_none refl (sym (outside_none b h)))
    go (no h) = omega arith

second : (a b : Bool) → a ≡ true → (a && b) ≡ false → b ≡ false
second a b t e = sym (rw t) ∙ e

speaks : (phys : List ℕ) (phy carried : ℕ) → participating phys phy ≡ true → smp_source phys phy carried ≡ outside_group carried
unfolding smp_source
speaks phys phy carried p = rw p

pub no_group : NoGroupNoAnswer
unfolding outcome_of
no_group = (
  λ w phys t phy carried changes request response set v bs p e.
      let k = arrival_clear phys phy (permissions_sized w t) (room_for response set) true _ _ refl (unrefused _ _ _ _ v bs e) tt in
      group_most carried (sym (ap (λ (o : Option ZoneGroup). not (is_group o)) (speaks phys phy carried p)) ∙ k.1.1.1.0),
  λ w phys t phy arrived set frame v bs e.
      let k = arrival_clear phys phy (permissions_sized w t) (broadcasts.room_for set frame) true _ _ refl (unrefused _ _ _ _ v bs e) tt in
      group_most (broadcasts.frame_source arrived) (second _ _ (not-false (participating phys phy) k.1.1.1.1.1.1.0) k.1.1.1.1.1.0),
  λ w phys t phy carried sheet v bs p e.
      let k = arrival_clear phys phy (permissions_sized w t) (leb (length sheet) sheet_most) true _ _ refl (unrefused _ _ _ _ v bs e) tt in
      group_most carried (sym (ap (λ (o : Option ZoneGroup). not (is_group o)) (speaks phys phy carried p)) ∙ k.1.0),
)

-- ---- a request is answered by its source alone
module _ (w : ℕ) (phys t : List ℕ) (phy carried other : ℕ) (e : smp_source phys phy carried ≡ smp_source phys phy other) where
  same-right : right w phys t phy carried ≡ right w phys t phy other
  unfolding right
  same-right = rw e

  same_reply : (changes : Changes) (request : List ℕ) → smp_reply w phys t phy carried changes request ≡ smp_reply w phys t phy other changes request
  unfolding smp_reply phy_zone_reply permission_reply report_reply discover_reply shown reaches_phy
  same_reply changes request = rw (same-right, e)

  same_out : (changes : Changes) (request response set : List ℕ)
      → smp_out w phys t phy carried changes request response set ≡ smp_out w phys t phy other changes request response set
  unfolding length_field
  same_out changes request response set = rw (e, same_reply changes request)

-- and so is a sheet
same_import : (w : ℕ) (phys : List ℕ) (phy carried other : ℕ) (e : smp_source phys phy carried ≡ smp_source phys phy other) (t sheet : List ℕ)
    → import_out w phys t phy carried sheet ≡ import_out w phys t phy other sheet
same_import w phys phy carried other e t sheet = rw e

pub carried_unread : CarriedUnread
unfolding outcome_of smp_source
carried_unread = (
  λ w phys t phy carried other changes request response set p. same_out w phys t phy carried other (rw p) changes request response set,
  λ w phys t phy carried other sheet p. same_import w phys phy carried other (rw p) t sheet,
)

-- ---- routes
pub skipped : Skipped
skipped phys frame before gone behind a c h = (
  search_skips phys frame before gone behind a c h,
  ap (best nobody) (candidates_skip phys before gone behind a c h),
)
