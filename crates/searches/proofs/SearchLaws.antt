-- The searches: one step of each walk in the code's numbers, and its ends; and that a search names a ready phy of the table.
-- Assumes nothing.
use mathlib.Core.Path.{◌≡◌, refl, sym, ap, subst, ◌∙◌}
use mathlib.Core.Bool.{Bool, true, false, cond, not, ◌&&◌, and-false}
use mathlib.Core.List.{List}
use Prim.Native.Nat.{ℕ, zero, suc, ◌+◌, ◌-◌, ◌*◌, ◌<◌, ◌≤◌}
use native.Mathlib.Numerals.{add-one}
use native.Mathlib.Omega.{arith}
use borrow.Author.Tests.{ltb-true, eq-eqb, ne_eqb, not-true, not-false}
use lib.Dec.{eqb}
use lib.ListN.{get_or}
use Rattle.wire.specs.declared.PhyNumber.{PhyNumber}
use Rattle.wire.specs.declared.ZoneGroup.{ZoneGroup}
use Rattle.std.proofs.Common.{Option, Some, None}
use Rattle.std.proofs.lemmas.Bool.Decides.{nat_tests}
use Rattle.wire.specs.Address.{big_endian, address_at}
use Rattle.wire.specs.Groups.{outside_group}
use Rattle.wire.proofs.GroupLaws.{outside_number}
use Rattle.wire.proofs.Loops.{left}
use Rattle.tables.specs.Phys.{phy_record, phy_count, phy_group, ready}
use Rattle.tables.specs.Routes.{route_record, route_count, route_byte, route_phy, route_group}
use Rattle.tables.proofs.ArrivalLaws.{both}
use Rattle.searches.specs.declared.Destination.{Destination}
use Rattle.searches.specs.Search.{same_bytes, zero_bytes, found, found_by, find_phy, usable, find_route, or_else, search}

-- ---- bytes that are zero: those from k up are
pub record Zeros (s : List ℕ) (i k : ℕ) : Type 0 where
  pub within : k ≤ 8
  pub rest : zero_bytes 8 s i ≡ zero_bytes k s i

pub zeros-start : (s : List ℕ) (i : ℕ) → Zeros s i 8
zeros-start s i = record { within = omega arith; rest = refl }

module _ (s : List ℕ) (i k : ℕ) (z : Zeros s i k) where
  pub zeros_again : 0 < k → get_or s (i + (k - 1)) 0 ≡ 0 → Zeros s i (k - 1)
  unfolding zero_bytes
  zeros_again h e =
      let p : k ≡ suc (k - 1) = omega arith in
      record { within = omega arith; rest = z.rest ∙ ap (λ (m : ℕ). zero_bytes m s i) p ∙ rw (eq-eqb _ _ e) }

  pub zeros_not : 0 < k → (get_or s (i + (k - 1)) 0 ≡ 0 → ⊥) → false ≡ zero_bytes 8 s i
  unfolding zero_bytes
  zeros_not h e =
      let p : k ≡ suc (k - 1) = omega arith in
      sym (z.rest ∙ ap (λ (m : ℕ). zero_bytes m s i) p ∙ rw (ne_eqb _ _ e))

  pub zeros_end : k ≤ 0 → true ≡ zero_bytes 8 s i
  unfolding zero_bytes
  zeros_end h =
      let p : k ≡ 0 = omega arith in
      sym (z.rest ∙ ap (λ (m : ℕ). zero_bytes m s i) p)

-- for who has the address as a number: the bytes are zero where it is
zero_more : (high b : ℕ) → eqb (high * 256 + b) 0 ≡ (eqb b 0 && eqb high 0)
zero_more high b = grind (arith, nat_tests)

pub zero_address : (frame : List ℕ) (a : ℕ) → a ≡ address_at frame 4 → zero_bytes 8 frame 4 ≡ eqb a 0
unfolding zero_bytes address_at big_endian
zero_address frame a e = rw e (simp zero_more refl)

-- ---- bytes that are the same: those from k up are
pub record Agree (s : List ℕ) (i : ℕ) (t : List ℕ) (j k : ℕ) : Type 0 where
  pub some : 0 < k
  pub within : k ≤ 8
  pub rest : same_bytes 8 s i t j ≡ same_bytes k s i t j

module _ (s : List ℕ) (i : ℕ) (t : List ℕ) (j k : ℕ) (a : Agree s i t j k) where
  same_more : get_or s (i + (k - 1)) 0 ≡ get_or t (j + (k - 1)) 0 → same_bytes 8 s i t j ≡ same_bytes (k - 1) s i t j
  unfolding same_bytes
  same_more e =
      let p : k ≡ suc (k - 1) = omega arith in
      a.rest ∙ ap (λ (m : ℕ). same_bytes m s i t j) p ∙ rw (eq-eqb _ _ e)

  pub agree_again : get_or s (i + (k - 1)) 0 ≡ get_or t (j + (k - 1)) 0 → 0 < k - 1 → Agree s i t j (k - 1)
  agree_again e h = record { some = h; within = omega arith; rest = same_more e }

  same_not : (get_or s (i + (k - 1)) 0 ≡ get_or t (j + (k - 1)) 0 → ⊥) → same_bytes 8 s i t j ≡ false
  unfolding same_bytes
  same_not e =
      let p : k ≡ suc (k - 1) = omega arith in
      a.rest ∙ ap (λ (m : ℕ). same_bytes m s i t j) p ∙ rw (ne_eqb _ _ e)

  same_all : get_or s (i + (k - 1)) 0 ≡ get_or t (j + (k - 1)) 0 → k - 1 ≤ 0 → same_bytes 8 s i t j ≡ true
  unfolding same_bytes
  same_all e h =
      let p : k - 1 ≡ 0 = omega arith in
      same_more e ∙ ap (λ (m : ℕ). same_bytes m s i t j) p

-- ---- the phys: none of the first i fits
pub record PhysLeft (phys frame : List ℕ) (n i : ℕ) : Type 0 where
  pub within : i ≤ n
  pub rest : find_phy phys frame 0 n ≡ find_phy phys frame i (n - i)

pub phys_none : (phys frame : List ℕ) (n i : ℕ) → PhysLeft phys frame n i → i ≡ n → None ≡ find_phy phys frame 0 n
unfolding find_phy
phys_none phys frame n i w e =
    let z : n - i ≡ 0 = omega arith in sym (w.rest ∙ ap (find_phy phys frame i) z)

-- phy i is looked at; j is what the code then calls i
module _ (phys frame : List ℕ) (n i j : ℕ) (w : PhysLeft phys frame n i) (h : i ≡ n → ⊥) (q : j ≡ i) where
  phys_next : (ready phys i && same_bytes 8 phys (phy_record * i + 4) frame 4) ≡ false → PhysLeft phys frame n (j + 1)
  unfolding find_phy
  phys_next e =
      let l = w.within in
      record {
        within = omega arith;
        rest = rw (q, add-one i) (w.rest ∙ ap (find_phy phys frame i) (left n i (omega arith) ∙ ap (λ (m : ℕ). suc (n - m)) (add-one i)) ∙ rw e);
      }

  pub phys_other : (k : ℕ) → Agree phys (phy_record * i + 4) frame 4 k → (get_or phys (phy_record * i + 4 + (k - 1)) 0 ≡ get_or frame (4 + (k - 1)) 0 → ⊥) → PhysLeft phys frame n (j + 1)
  phys_other k a e = phys_next (rw (same_not phys (phy_record * i + 4) frame 4 k a e) (and-false (ready phys i)))

  pub phys_down : (r : Bool) → r ≡ ready phys j → not r ≡ true → PhysLeft phys frame n (j + 1)
  phys_down r e d =
      let f : ready phys i ≡ false = ap (ready phys) (sym q) ∙ sym e ∙ not-true r d in phys_next (rw f)

  pub phys_here : (k : ℕ) (r : Bool) (g : ZoneGroup) → Agree phys (phy_record * i + 4) frame 4 k → get_or phys (phy_record * i + 4 + (k - 1)) 0 ≡ get_or frame (4 + (k - 1)) 0 → k - 1 ≤ 0 → r ≡ ready phys j → not r ≡ false → g.0 ≡ phy_group phys j
      → Some (record { phy = record { 0 = j }; group = g }) ≡ find_phy phys frame 0 n
  unfolding find_phy
  phys_here k r g a e z er u eg =
      let l = w.within in
      let f : ready phys i ≡ true = ap (ready phys) (sym q) ∙ sym er ∙ not-false r u in
      ap (λ (x : ℕ). found j x) eg
      ∙ ap (λ (m : ℕ). found m (phy_group phys m)) q
      ∙ sym (w.rest ∙ ap (find_phy phys frame i) (left n i (omega arith)) ∙ rw (f, same_all phys (phy_record * i + 4) frame 4 k a e z))

-- ---- whether a record fits or not
pub either_way : (b : Bool) (x : Option Destination) → cond b x x ≡ x
either_way true x = refl
either_way false x = refl

-- ---- the routes: none of the first i fits
pub record RoutesLeft (phys routes frame : List ℕ) (n i : ℕ) : Type 0 where
  pub within : i ≤ n
  pub rest : find_route phys routes frame 0 n ≡ find_route phys routes frame i (n - i)

pub routes_none : (phys routes frame : List ℕ) (n i : ℕ) → RoutesLeft phys routes frame n i → i ≡ n → None ≡ find_route phys routes frame 0 n
unfolding find_route
routes_none phys routes frame n i w e =
    let z : n - i ≡ 0 = omega arith in sym (w.rest ∙ ap (find_route phys routes frame i) z)

module _ (phys routes frame : List ℕ) (n i j : ℕ) (w : RoutesLeft phys routes frame n i) (h : i ≡ n → ⊥) (q : j ≡ i) where
  routes_next : ((m : ℕ) → find_route phys routes frame i (suc m) ≡ find_route phys routes frame (suc i) m) → RoutesLeft phys routes frame n (j + 1)
  routes_next e =
      let l = w.within in
      record {
        within = omega arith;
        rest = rw (q, add-one i) (w.rest ∙ ap (find_route phys routes frame i) (left n i (omega arith) ∙ ap (λ (m : ℕ). suc (n - m)) (add-one i)) ∙ e (n - suc i));
      }

  -- it does not fit
  routes_unfit : (usable phys (route_phy routes i) && same_bytes 8 routes (route_record * i) frame 4) ≡ false → RoutesLeft phys routes frame n (j + 1)
  unfolding find_route
  routes_unfit e = routes_next (λ m. rw e)

  pub routes_other : (k : ℕ) → Agree routes (route_record * i) frame 4 k → (get_or routes (route_record * i + (k - 1)) 0 ≡ get_or frame (4 + (k - 1)) 0 → ⊥) → RoutesLeft phys routes frame n (j + 1)
  routes_other k a e = routes_unfit (rw (same_not routes (route_record * i) frame 4 k a e) (and-false (usable phys (route_phy routes i))))

  pub routes_down : (p : PhyNumber) (r : Bool) → p.0 ≡ route_phy routes j → r ≡ usable phys p.0 → not r ≡ true → RoutesLeft phys routes frame n (j + 1)
  routes_down p r ep e d =
      let f : usable phys (route_phy routes i) ≡ false = ap (λ (m : ℕ). usable phys (route_phy routes m)) (sym q) ∙ ap (usable phys) (sym ep) ∙ sym e ∙ not-true r d in routes_unfit (rw f)

  -- it is of no group: whether it fits or not, it is skipped
  pub routes_skipped : (o : Option ZoneGroup) → o ≡ route_group routes j → o ≡ None → RoutesLeft phys routes frame n (j + 1)
  unfolding find_route
  routes_skipped o e s =
      let f : route_group routes i ≡ None = ap (route_group routes) (sym q) ∙ sym e ∙ s in
      routes_next (λ m. rw f (either_way (usable phys (route_phy routes i) && same_bytes 8 routes (route_record * i) frame 4) (find_route phys routes frame (suc i) m)))

  pub routes_here : (k : ℕ) (p : PhyNumber) (r : Bool) (o : Option ZoneGroup) (g : ZoneGroup) → Agree routes (route_record * i) frame 4 k → get_or routes (route_record * i + (k - 1)) 0 ≡ get_or frame (4 + (k - 1)) 0 → k - 1 ≤ 0 → p.0 ≡ route_phy routes j → r ≡ usable phys p.0 → not r ≡ false → o ≡ route_group routes j → o ≡ Some g
      → Some (record { phy = p; group = g }) ≡ find_route phys routes frame 0 n
  unfolding find_route
  routes_here k p r o g a e z ep er u eo s =
      let l = w.within in
      let f : usable phys (route_phy routes i) ≡ true = ap (λ (m : ℕ). usable phys (route_phy routes m)) (sym q) ∙ ap (usable phys) (sym ep) ∙ sym er ∙ not-false r u in
      let b : route_group routes i ≡ Some g = ap (route_group routes) (sym q) ∙ sym eo ∙ s in
      ap (λ (x : ℕ). Some (record { phy = record { 0 = x }; group = g })) (ep ∙ ap (route_phy routes) q)
      ∙ sym (w.rest ∙ ap (find_route phys routes frame i) (left n i (omega arith)) ∙ rw (f, same_all routes (route_record * i) frame 4 k a e z, b))

-- ---- both tables, with z whether the address is zero and f what the phy table gave
module _ (phys routes frame : List ℕ) (z : Bool) (ez : z ≡ zero_bytes 8 frame 4) where
  pub search_zero : z ≡ true → None ≡ search phys routes frame
  unfolding search
  search_zero h = rw (sym ez ∙ h)

  module _ (f : Option Destination) (h : z ≡ false) (ef : f ≡ find_phy phys frame 0 (phy_count phys)) where
    pub search-first : (d : Destination) → f ≡ Some d → Some d ≡ search phys routes frame
    unfolding search
    search-first d e = rw (sym ez ∙ h, sym ef ∙ e)

    pub search_second : (r : Option Destination) → f ≡ None → r ≡ find_route phys routes frame 0 (route_count routes) → r ≡ search phys routes frame
    unfolding search
    search_second r e er = rw (sym ez ∙ h, sym ef ∙ e) er

-- ---- what a search finds is a ready phy of the table, and a group
abbrev Names : List ℕ → Option Destination → Type 0
Names phys None = Unit
Names phys (Some d) = (d.phy.0 < phy_count phys) × (ready phys d.phy.0 ≡ true) × (d.group.0 < 128)

module _ (phys : List ℕ) where
  names_cond : (b : Bool) (x y : Option Destination) → (b ≡ true → Names phys x) → Names phys y → Names phys (cond b x y)
  names_cond true x y h l = h refl
  names_cond false x y h l = l

  names_else : (x y : Option Destination) → Names phys x → Names phys y → Names phys (or_else x y)
  names_else (Some d) y h l = h
  names_else None y h l = l

  names_phy : (frame : List ℕ) (i n : ℕ) → i + n ≤ phy_count phys → Names phys (find_phy phys frame i n)
  unfolding find_phy
  names_phy frame i zero h = tt
  names_phy frame i (suc n) h =
      names_cond (ready phys i && same_bytes 8 phys (phy_record * i + 4) frame 4) (found i (phy_group phys i)) (find_phy phys frame (suc i) n)
      (λ e. (omega arith, (both (ready phys i) _ e).0, omega arith)) (names_phy frame (suc i) n (omega arith))

  names_by : (p b : ℕ) → p < phy_count phys → ready phys p ≡ true → (o : Option ZoneGroup) → outside_group b ≡ o → Names phys (found_by p o)
  names_by p b h u (Some g) e = let k = outside_number b g e in (h, u, omega arith)
  names_by p b h u None e = tt

  names_route : (routes frame : List ℕ) (i n : ℕ) → Names phys (find_route phys routes frame i n)
  unfolding find_route
  names_route routes frame i zero = tt
  names_route routes frame i (suc n) =
      let next = names_route routes frame (suc i) n in
      names_cond (usable phys (route_phy routes i) && same_bytes 8 routes (route_record * i) frame 4) (or_else (found_by (route_phy routes i) (route_group routes i)) (find_route phys routes frame (suc i) n)) (find_route phys routes frame (suc i) n)
      (λ e.
      let u = both _ _ (both (usable phys (route_phy routes i)) _ e).0 in
      names_else (found_by (route_phy routes i) (route_group routes i)) (find_route phys routes frame (suc i) n)
      (names_by (route_phy routes i) (route_byte routes i 9) (ltb-true _ _ u.0) u.1 (route_group routes i) refl)
      next)
      next

  names-search : (routes frame : List ℕ) → Names phys (search phys routes frame)
  unfolding search
  names-search routes frame =
      names_cond (zero_bytes 8 frame 4) None (or_else (find_phy phys frame 0 (phy_count phys)) (find_route phys routes frame 0 (route_count routes))) (λ e. tt)
      (names_else (find_phy phys frame 0 (phy_count phys)) (find_route phys routes frame 0 (route_count routes)) (names_phy frame 0 (phy_count phys) (omega arith)) (names_route routes frame 0 (route_count routes)))

  pub search-names : (routes frame : List ℕ) (d : Destination) → search phys routes frame ≡ Some d → (d.phy.0 < phy_count phys) × (ready phys d.phy.0 ≡ true) × (d.group.0 < 128)
  search-names routes frame d e = subst (Names phys) e (names-search routes frame)
