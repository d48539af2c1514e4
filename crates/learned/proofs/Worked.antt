-- The worked pairs, by the theorem; that no premise is idle, and what the theorem does not cover. What depends on the width is computed at both: which groups
-- group 4 reaches, and the bytes.
-- Assumes nothing.
use mathlib.Core.Path.{◌≡◌, refl, sym, ap, ◌∙◌}
use mathlib.Core.Bool.{Bool, true, false}
use mathlib.Core.List.{List, ◌++◌}
use Prim.Native.Nat.{ℕ}
use native.Mathlib.Omega.{arith}
use borrow.Author.Tests.{eq-eqb}
use lib.ListN.{length, get_or, replicate}
use Rattle.std.proofs.Common.{Option, Some}
use Rattle.wire.specs.declared.ZoneGroup.{ZoneGroup}
use Rattle.wire.specs.Address.{big_endian, address_at}
use Rattle.wire.specs.Groups.{outside_group}
use Rattle.wire.specs.Bits.{bit, set_bit, tab}
use Rattle.wire.specs.PhySet.{member, tally, phys_in}
use Rattle.wire.proofs.BitLaws.{each8}
use Rattle.permit.specs.Permission.{table_size, permissions_sized, place, P, reaches, set_P, set_both, start_byte, start_table}
use Rattle.tables.specs.Outcome.{outcome}
use Rattle.tables.specs.Phys.{phys_sized, phy_group, participating, ready, empty_set}
use Rattle.tables.specs.Ports.{same_port}
use Rattle.tables.specs.Routes.{routes_sized}
use Rattle.tables.specs.Arrival.{arrival_checks}
use Rattle.tables.specs.Refusals.{first_refusal}
use Rattle.opens.specs.Open.{open_source, judge, byte20, sent}
use Rattle.searches.specs.Search.{same_bytes, zero_bytes, find_phy, find_route, search}
use Rattle.requests.specs.Requests.{smp_source, source_reaches, replied}
use Rattle.discover.specs.declared.Changes.{Changes}
use Rattle.discover.specs.Discover.{length_said, reaches_phy, shown, byte_at, description, discover_reply}
use Rattle.rules.specs.Rules.{smp_reply, length_field}
use Rattle.rack.specs.Rack.{rack, flat, rack_table}
use Rattle.shelf.specs.Calls.{outcome_of}
use Rattle.shelf.specs.Cases.{discover}
use Rattle.shelf.specs.Promises.{Shelf, none, sizes, counts, buffers, readiness, permission, records, Alike, source_of, permitted_to, record_of}
use Rattle.shelf.proofs.Learned.{learns_nothing_else}
use Rattle.learned.specs.Pairs.{put, members, ordered, here, neighbours, reordered, elsewhere, Pair, Pairs, other_address, other_group, no_order, not_ready, other_counts, one_more, other_buffer, byte_of, opens, Worked}

-- ---- computed at both widths: which of the groups that phys are in group 4 reaches, on the two shelves of the pair, and the tables' sizes
pub record Computed (w : ℕ) : Type 0 where
  pub reach : (reaches w (ordered w) 4 0 ≡ false) × (reaches w (ordered w) 4 1 ≡ true) × (reaches w (ordered w) 4 4 ≡ false)
      × (reaches w (ordered w) 4 5 ≡ true) × (reaches w (ordered w) 4 6 ≡ false) × (reaches w (ordered w) 4 8 ≡ false)
  pub reach_elsewhere : (reaches w (reordered w) 4 0 ≡ false) × (reaches w (reordered w) 4 1 ≡ true) × (reaches w (reordered w) 4 4 ≡ false)
      × (reaches w (reordered w) 4 5 ≡ true) × (reaches w (reordered w) 4 9 ≡ false) × (reaches w (reordered w) 4 8 ≡ false)
  pub unordered : reaches w (start_table w) 4 5 ≡ false
  pub sized : (length (ordered w) ≡ table_size w) × (length (reordered w) ≡ table_size w) × (length (start_table w) ≡ table_size w)

computed_16 : Computed 16
unfolding bit set_bit tab place P reaches set_P set_both start_byte start_table ordered reordered
computed_16 = record {
  reach = (refl, refl, refl, refl, refl, refl);
  reach_elsewhere = (refl, refl, refl, refl, refl, refl);
  unordered = refl;
  sized = (refl, refl, refl);
}

computed_1 : Computed 1
unfolding bit set_bit tab place P reaches set_P set_both start_byte start_table ordered reordered
computed_1 = record {
  reach = (refl, refl, refl, refl, refl, refl);
  reach_elsewhere = (refl, refl, refl, refl, refl, refl);
  unordered = refl;
  sized = (refl, refl, refl);
}

-- ---- two shelves whose callers are of group 4
abbrev four : Option ZoneGroup
four = Some (record { 0 = 4 })

-- what a phy that is not permitted would need
absent : {A : Type 0} (b : Bool) → b ≡ false → b ≡ true → A
absent b e h = absurd (let z : ◌≡◌ {A = ℕ} 0 1 = cc in omega arith)

module _ (w : ℕ) (a b : Shelf) (ea : source_of a ≡ four) (eb : source_of b ≡ four) where
  reached : (i : ℕ) → permitted_to w a i ≡ reaches w a.permissions 4 (phy_group a.phys i)
  reached i = ap (λ (o : Option ZoneGroup). source_reaches w a.permissions o (phy_group a.phys i)) ea

  permitted : (i : ℕ) (v : Bool) → reaches w a.permissions 4 (phy_group a.phys i) ≡ v → reaches w b.permissions 4 (phy_group b.phys i) ≡ v
      → permitted_to w a i ≡ permitted_to w b i
  permitted i v p q = reached i ∙ p ∙ sym q ∙ ap (λ (o : Option ZoneGroup). source_reaches w b.permissions o (phy_group b.phys i)) (sym eb)

  hidden : (i : ℕ) → reaches w a.permissions 4 (phy_group a.phys i) ≡ false → permitted_to w a i ≡ true → record_of a i ≡ record_of b i
  hidden i e h = absent _ (reached i ∙ e) h

module _ (w : ℕ) (k : Computed w) where
  right : (phys t : List ℕ) → phys_sized phys ≡ true → length t ≡ table_size w → (phys_sized phys ≡ true) × (permissions_sized w t ≡ true)
  right phys t p e = (p, eq-eqb _ _ e)

  -- the pair, for a caller whose source group is 4 on both shelves, and who is there on both as he should be
  module _ (phy carried : ℕ) (ea : smp_source members phy carried ≡ four) (eb : smp_source neighbours phy carried ≡ four)
      (er : (ready members phy ≡ true) × (ready neighbours phy ≡ true)) (ep : participating members phy ≡ participating neighbours phy) where
    alike : Alike none w (here w phy carried) (elsewhere w phy carried)
    unfolding phys_sized rack flat rack_table members neighbours here elsewhere
    alike = record {
      right_sizes = (right members (ordered w) refl k.sized.0, right neighbours (reordered w) refl k.sized.1);
      equal_sizes = (refl, k.sized.0 ∙ sym k.sized.1);
      same_counts = refl;
      equal_buffers = (refl, refl);
      same_phy = refl;
      ready_in_both = er;
      participating_alike = ep;
      same_carried = refl;
      same_source = ea ∙ sym eb;
      same_permitted =
          let p = permitted w (here w phy carried) (elsewhere w phy carried) ea eb in
          let r = k.reach in
          let q = k.reach_elsewhere in
          each8 (λ (i : ℕ). permitted_to w (here w phy carried) i ≡ permitted_to w (elsewhere w phy carried) i)
          (p 0 true r.1 q.1) (p 1 false r.2 q.2) (p 2 false r.4 q.4) (p 3 false r.5 q.5)
          (p 4 true r.3 q.3) (p 5 true r.3 q.3) (p 6 false r.0 q.0) (p 7 true r.1 q.1);
      equal_records =
          let h = hidden w (here w phy carried) (elsewhere w phy carried) ea eb in
          let r = k.reach in
          each8 (λ (i : ℕ). permitted_to w (here w phy carried) i ≡ true → record_of (here w phy carried) i ≡ record_of (elsewhere w phy carried) i)
          (λ e. refl) (h 1 r.2) (h 2 r.4) (h 3 r.5) (λ e. refl) (λ e. refl) (h 6 r.0) (λ e. refl);
    }

    pair : Pair w phy carried
    pair = (alike, learns_nothing_else w (here w phy carried) (elsewhere w phy carried) alike)

  pairs : Pairs w
  unfolding outside_group smp_source rack flat rack_table members neighbours
  pairs = (pair 1 0 refl refl (refl, refl) refl, pair 7 4 refl refl (refl, refl) refl)

  -- ---- each of these breaks one premise and no other
  -- phy 4 is permitted, and its records differ in byte 11
  other_address_lem : Alike records w (here w 1 0) (other_address w)
  unfolding phys_sized outside_group smp_source rack flat rack_table members here other_address
  other_address_lem = record {
    right_sizes = (right members (ordered w) refl k.sized.0, right (put 4 11 0x99 members) (ordered w) refl k.sized.0);
    equal_sizes = (refl, refl);
    same_counts = refl;
    equal_buffers = (refl, refl);
    same_phy = refl;
    ready_in_both = (refl, refl);
    participating_alike = refl;
    same_carried = refl;
    same_source = refl;
    same_permitted = each8 (λ (i : ℕ). permitted_to w (here w 1 0) i ≡ permitted_to w (other_address w) i) refl refl refl refl refl refl refl refl;
    equal_records = λ e. let z : ◌≡◌ {A = ℕ} 0x14 0x99 = ap (λ (l : List ℕ). get_or l 11 0) (e 4 (omega arith) k.reach.3) in omega arith;
  }

  -- phy 5 is permitted in both groups, and its records differ in byte 1
  other_group_lem : Alike records w (here w 1 0) (other_group w)
  unfolding phys_sized outside_group smp_source rack flat rack_table members here other_group
  other_group_lem = record {
    right_sizes = (right members (ordered w) refl k.sized.0, right (put 5 1 1 members) (ordered w) refl k.sized.0);
    equal_sizes = (refl, refl);
    same_counts = refl;
    equal_buffers = (refl, refl);
    same_phy = refl;
    ready_in_both = (refl, refl);
    participating_alike = refl;
    same_carried = refl;
    same_source = refl;
    same_permitted = each8 (λ (i : ℕ). permitted_to w (here w 1 0) i ≡ permitted_to w (other_group w) i) refl refl refl refl refl (k.reach.3 ∙ sym k.reach.1) refl refl;
    equal_records = λ e. let z : ◌≡◌ {A = ℕ} 5 1 = ap (λ (l : List ℕ). get_or l 1 0) (e 5 (omega arith) k.reach.3) in omega arith;
  }

  -- phy 4 is permitted in the one alone
  no_order_lem : Alike permission w (here w 1 0) (no_order w)
  unfolding phys_sized outside_group smp_source rack flat rack_table members here no_order
  no_order_lem = record {
    right_sizes = (right members (ordered w) refl k.sized.0, right members (start_table w) refl k.sized.2);
    equal_sizes = (refl, k.sized.0 ∙ sym k.sized.2);
    same_counts = refl;
    equal_buffers = (refl, refl);
    same_phy = refl;
    ready_in_both = (refl, refl);
    participating_alike = refl;
    same_carried = refl;
    same_source = refl;
    same_permitted = λ e. absent _ k.unordered (sym (e 4 (omega arith)) ∙ k.reach.3);
    equal_records = λ i h e. refl;
  }

  -- the caller's own phy is hidden from him, so its record may differ
  not_ready_lem : Alike readiness w (here w 1 0) (not_ready w)
  unfolding phys_sized outside_group smp_source rack flat rack_table members here not_ready
  not_ready_lem = record {
    right_sizes = (right members (ordered w) refl k.sized.0, right (put 1 2 2 members) (ordered w) refl k.sized.0);
    equal_sizes = (refl, refl);
    same_counts = refl;
    equal_buffers = (refl, refl);
    same_phy = refl;
    ready_in_both = λ e. absent _ refl e.1;
    participating_alike = refl;
    same_carried = refl;
    same_source = refl;
    same_permitted = each8 (λ (i : ℕ). permitted_to w (here w 1 0) i ≡ permitted_to w (not_ready w) i) refl refl refl refl refl refl refl refl;
    equal_records = each8 (λ (i : ℕ). permitted_to w (here w 1 0) i ≡ true → record_of (here w 1 0) i ≡ record_of (not_ready w) i) (λ e. refl) (hidden w (here w 1 0) (not_ready w) refl refl 1 k.reach.2) (λ e. refl) (λ e. refl) (λ e. refl) (λ e. refl) (λ e. refl) (λ e. refl);
  }

  -- both tables are the same
  other_counts_lem : Alike counts w (here w 1 0) (other_counts w)
  unfolding phys_sized outside_group smp_source rack flat rack_table members here other_counts
  other_counts_lem = record {
    right_sizes = (right members (ordered w) refl k.sized.0, right members (ordered w) refl k.sized.0);
    equal_sizes = (refl, refl);
    same_counts = λ e. let z : ◌≡◌ {A = ℕ} 0 3 = ap (λ (c : Changes). c.phy) e in omega arith;
    equal_buffers = (refl, refl);
    same_phy = refl;
    ready_in_both = (refl, refl);
    participating_alike = refl;
    same_carried = refl;
    same_source = refl;
    same_permitted = each8 (λ (i : ℕ). permitted_to w (here w 1 0) i ≡ permitted_to w (other_counts w) i) refl refl refl refl refl refl refl refl;
    equal_records = λ i h e. refl;
  }

  -- the first eight phys are the same
  one_more_lem : Alike sizes w (here w 1 0) (one_more w)
  unfolding phys_sized outside_group smp_source rack flat rack_table members here one_more
  one_more_lem = record {
    right_sizes = (right members (ordered w) refl k.sized.0, right (members ++ replicate 16 0) (ordered w) refl k.sized.0);
    equal_sizes = λ e. omega (arith, e.0);
    same_counts = refl;
    equal_buffers = (refl, refl);
    same_phy = refl;
    ready_in_both = (refl, refl);
    participating_alike = refl;
    same_carried = refl;
    same_source = refl;
    same_permitted = each8 (λ (i : ℕ). permitted_to w (here w 1 0) i ≡ permitted_to w (one_more w) i) refl refl refl refl refl refl refl refl;
    equal_records = each8 (λ (i : ℕ). permitted_to w (here w 1 0) i ≡ true → record_of (here w 1 0) i ≡ record_of (one_more w) i) (λ e. refl) (λ e. refl) (λ e. refl) (λ e. refl) (λ e. refl) (λ e. refl) (λ e. refl) (λ e. refl);
  }

  -- both tables are the same
  other_buffer_lem : Alike buffers w (here w 1 0) (other_buffer w)
  unfolding phys_sized outside_group smp_source rack flat rack_table members here other_buffer
  other_buffer_lem = record {
    right_sizes = (right members (ordered w) refl k.sized.0, right members (ordered w) refl k.sized.0);
    equal_sizes = (refl, refl);
    same_counts = refl;
    equal_buffers = λ e. let z : ◌≡◌ {A = ℕ} 0 1 = ap (λ (l : List ℕ). get_or l 0 0) e.0 in omega arith;
    same_phy = refl;
    ready_in_both = (refl, refl);
    participating_alike = refl;
    same_carried = refl;
    same_source = refl;
    same_permitted = each8 (λ (i : ℕ). permitted_to w (here w 1 0) i ≡ permitted_to w (other_buffer w) i) refl refl refl refl refl refl refl refl;
    equal_records = λ i h e. refl;
  }

-- ---- both widths
pub worked_16 : Worked 16
unfolding big_endian address_at outside_group bit set_bit tab member tally phys_in place P reaches set_P set_both start_byte start_table outcome phys_sized routes_sized arrival_checks empty_set first_refusal open_source judge byte20 sent same_bytes zero_bytes find_phy find_route search same_port smp_source replied length_said reaches_phy shown byte_at description discover_reply smp_reply length_field rack flat rack_table outcome_of discover members ordered here neighbours reordered elsewhere other_address other_group no_order not_ready other_counts one_more other_buffer byte_of opens
worked_16 = (
  pairs 16 computed_16,
  (
    (other_address_lem 16 computed_16, refl, refl),
    (other_group_lem 16 computed_16, refl, refl),
    (no_order_lem 16 computed_16, refl, refl),
    (not_ready_lem 16 computed_16, refl, refl),
    (other_counts_lem 16 computed_16, refl, refl),
    (one_more_lem 16 computed_16, refl, refl),
    (other_buffer_lem 16 computed_16, refl, refl),
  ),
  ((refl, refl), (refl, refl), (refl, refl), (refl, refl, refl)),
)

pub worked_1 : Worked 1
unfolding big_endian address_at outside_group bit set_bit tab member tally phys_in place P reaches set_P set_both start_byte start_table outcome phys_sized routes_sized arrival_checks empty_set first_refusal open_source judge byte20 sent same_bytes zero_bytes find_phy find_route search same_port smp_source replied length_said reaches_phy shown byte_at description discover_reply smp_reply length_field rack flat rack_table outcome_of discover members ordered here neighbours reordered elsewhere other_address other_group no_order not_ready other_counts one_more other_buffer byte_of opens
worked_1 = (
  pairs 1 computed_1,
  (
    (other_address_lem 1 computed_1, refl, refl),
    (other_group_lem 1 computed_1, refl, refl),
    (no_order_lem 1 computed_1, refl, refl),
    (not_ready_lem 1 computed_1, refl, refl),
    (other_counts_lem 1 computed_1, refl, refl),
    (one_more_lem 1 computed_1, refl, refl),
    (other_buffer_lem 1 computed_1, refl, refl),
  ),
  ((refl, refl), (refl, refl), (refl, refl), (refl, refl, refl)),
)
