-- "Such a route record is skipped in searches": a search gives what it gives with the table without that record.
-- Assumes nothing.
use mathlib.Core.Path.{◌≡◌, refl, sym, ap, ap₂}
use mathlib.Core.Bool.{Bool, cond, ◌&&◌}
use mathlib.Core.List.{List, ◌++◌}
use Prim.Native.Nat.{ℕ, zero, suc, ◌+◌, ◌*◌, ◌%◌, ◌<◌}
use native.Mathlib.Omega.{arith}
use lib.Dec.{eqb}
use lib.ListN.{length, get_or}
use Rattle.std.proofs.Common.{Option, None}
use Rattle.wire.proofs.GroupLaws.{outside_none}
use Rattle.tables.specs.Phys.{phy_count}
use Rattle.tables.specs.Routes.{route_record, route_byte, route_phy, route_group}
use Rattle.tables.proofs.RouteLaws.{SameRecord, Walk, walk_skips}
use Rattle.searches.proofs.SearchLaws.{either_way}
use Rattle.searches.specs.declared.Destination.{Destination}
use Rattle.searches.specs.Search.{same_bytes, zero_bytes, found_by, find_phy, usable, find_route, or_else, search}

-- the same bytes are the same as others
same_reads : (n : ℕ) (r : List ℕ) (i : ℕ) (s : List ℕ) (j : ℕ) (t : List ℕ) (q : ℕ) → ((k : ℕ) → k < n → get_or r (i + k) 0 ≡ get_or s (j + k) 0)
    → same_bytes n r i t q ≡ same_bytes n s j t q
unfolding same_bytes
same_reads zero r i s j t q h = refl
same_reads (suc n) r i s j t q h =
    ap₂ (λ (x : ℕ) (b : Bool). eqb x (get_or t (q + n) 0) && b) (h n (omega arith)) (same_reads n r i s j t q (λ k l. h k (omega arith)))

module _ (phys frame : List ℕ) where
  -- what record i makes of what the records above it give
  abbrev looked : List ℕ → ℕ → Option Destination → Option Destination
  looked routes i f =
      cond (usable phys (route_phy routes i) && same_bytes 8 routes (route_record * i) frame 4)
      (or_else (found_by (route_phy routes i) (route_group routes i)) f)
      f

  looked_reads : (r : List ℕ) (i : ℕ) (s : List ℕ) (j : ℕ) → SameRecord r i s j → (f : Option Destination) → looked r i f ≡ looked s j f
  looked_reads r i s j h f =
      let b = same_reads 8 r (route_record * i) s (route_record * j) frame 4 (λ k l. h k (omega arith)) in
      rw (h 8 (omega arith), h 9 (omega arith), b)

  looked_passes : (r : List ℕ) (i : ℕ) → 127 < route_byte r i 9 → (f : Option Destination) → looked r i f ≡ f
  looked_passes r i h f =
      let g : route_group r i ≡ None = sym (outside_none (route_byte r i 9) h) in
      rw g (either_way (usable phys (route_phy r i) && same_bytes 8 r (route_record * i) frame 4) f)

  route_walk : Walk (Option Destination) (λ r i n. find_route phys r frame i n) looked
  unfolding find_route
  route_walk = record {
    ends = λ r i s j. refl;
    steps = λ r i n. refl;
    reads = looked_reads;
    passes = looked_passes;
  }

  pub search_skips : (before skipped behind : List ℕ) → length before % route_record ≡ 0 → length skipped ≡ route_record → 127 < get_or skipped 9 0
      → search phys (before ++ skipped ++ behind) frame ≡ search phys (before ++ behind) frame
  unfolding search
  search_skips before skipped behind a c h =
      ap (λ (f : Option Destination). cond (zero_bytes 8 frame 4) None (or_else (find_phy phys frame 0 (phy_count phys)) f)) (walk_skips route_walk before skipped behind a c h)
