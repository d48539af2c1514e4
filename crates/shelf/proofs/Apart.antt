-- Groups that the table does not hold: nothing passes between two of which one is such a group, unless one is group 1. Document 01 has none.
-- Assumes nothing.
use mathlib.Core.Path.{◌≡◌, refl, sym, ap₂, ◌∙◌}
use mathlib.Core.Bool.{false, ◌||◌}
use mathlib.Core.List.{List}
use mathlib.Core.Logic.{inl, inr}
use Prim.Native.Nat.{ℕ}
use borrow.Author.Tests.{ne_eqb}
use Rattle.permit.specs.Permission.{reaches}
use Rattle.permit.proofs.ReachLaws.{reach_row, reach_group, reaches_16}
use Rattle.tables.specs.Phys.{phy_group}
use Rattle.opens.specs.Open.{open_source}
use Rattle.opens.proofs.OpenLaws as opens
use Rattle.told_set.proofs.ToldLaws as broadcasts
use Rattle.shelf.specs.Calls.{outcome_of}
use Rattle.shelf.specs.Promises.{AllHeld, Apart, NoOpenApart, NoBroadcastApart, NoDiscoverApart}
use Rattle.shelf.proofs.Answers.{forwarded, vacant}
use Rattle.shelf.proofs.WidePorts.{relayed}

pub all_held : AllHeld
all_held = reaches_16

apart : (w : ℕ) (t : List ℕ) (a b : ℕ) → Apart w a b → reaches w t a b ≡ false
apart w t a b (inl h, na, nb) = sym (reach_row w t a b _ h refl) ∙ ap₂ ◌||◌ (ne_eqb a 1 na) (ne_eqb b 1 nb)
apart w t a b (inr h, na, nb) = sym (reach_group w t a b _ h refl) ∙ ap₂ ◌||◌ (ne_eqb a 1 na) (ne_eqb b 1 nb)

pub no_open_apart : NoOpenApart
unfolding outcome_of
no_open_apart w phys routes t phy frame buffer d s h q o =
    opens.barred w phys routes t phy frame d s (apart w t (open_source phys phy frame) d.group.0 h) q (forwarded w phys routes t phy frame buffer q o)

pub no_broadcast_apart : NoBroadcastApart
no_broadcast_apart w phys t phy source set r i hi h =
    relayed w phys t phy source set r i hi ∙ broadcasts.told-barred w phys t phy source i (apart w t source (phy_group phys i) h)

pub no_discover_apart : NoDiscoverApart
no_discover_apart w phys t phy carried changes request response set a b d h v bs e =
    vacant w phys t phy carried changes request response set a b d (apart w t a b h) v bs e
