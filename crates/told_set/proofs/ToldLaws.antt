-- What `told` comes to: the permitted phys outside the arriving port, of each port the lowest, and no other; and the set of them.
-- Assumes nothing.
use mathlib.Core.Path.{◌≡◌, refl, sym, ap, ◌∙◌}
use mathlib.Core.Bool.{Bool, true, false, not, ◌||◌, and-false, and-true}
use mathlib.Core.List.{List}
use Prim.Native.Nat.{ℕ, zero, suc, ◌%◌, ◌≤◌, ◌<◌}
use native.Mathlib.Decide.{ℕ_discrete, dec_lt}
use native.Mathlib.Omega.{arith}
use borrow.Author.Tests.{not-true, not-false}
use lib.ListN.{length}
use Rattle.wire.specs.PhySet.{member, some}
use Rattle.wire.proofs.Sets.{member-set_of, length-set_of}
use Rattle.permit.specs.Permission.{reaches}
use Rattle.tables.specs.Phys.{phy_record, phy_count, phy_group, ready}
use Rattle.tables.specs.Ports.{same_port}
use Rattle.tables.proofs.ArrivalLaws.{never, both}
use Rattle.tables.proofs.PhyLaws.{ready_out}
use Rattle.tables.proofs.PortLaws.{port_self, port_sym, port_trans, port_outside}
use Rattle.told_set.specs.ToldSet.{permitted, permitted_in_port, told, told_set}

-- ---- at some number, at none
pub some_none : (f : ℕ → Bool) (n : ℕ) → ((j : ℕ) → j < n → f j ≡ false) → some f n ≡ false
unfolding some
some_none f zero h = refl
some_none f (suc n) h = rw (h n (omega arith), some_none f n (λ j l. h j (omega arith)))

some_one : (f : ℕ → Bool) (n j : ℕ) → j < n → f j ≡ true → some f n ≡ true
unfolding some
some_one f zero j l e = absurd (omega arith)
some_one f (suc n) j l e = go (ℕ_discrete j n) (f n) refl (some_one f n j)
  where
    go : Dec (j ≡ n) → (v : Bool) → f n ≡ v → (j < n → f j ≡ true → some f n ≡ true) → (v || some f n) ≡ true
    go d true ev r = refl
    go (yes p) false ev r = never (sym (sym e ∙ ap f p ∙ ev))
    go (no ne) false ev r = r (omega arith) e

-- a number at which f is true
record Some (f : ℕ → Bool) (n : ℕ) : Type 0 where
  at : ℕ
  below : at < n
  on : f at ≡ true

some_at : (f : ℕ → Bool) (n : ℕ) → some f n ≡ true → Some f n
unfolding some
some_at f zero e = never e
some_at f (suc n) e = go (f n) refl e (some_at f n)
  where
    go : (v : Bool) → f n ≡ v → (v || some f n) ≡ true → (some f n ≡ true → Some f n) → Some f (suc n)
    go true p q r = record { at = n; below = omega arith; on = p }
    go false p q r = let s = r q in record { at = s.at; below = omega (arith, s.below); on = s.on }

-- ---- a permitted phy
module _ (w : ℕ) (phys permissions : List ℕ) (source i : ℕ) where
  pub permitted_parts : permitted w phys permissions source i ≡ true → (ready phys i ≡ true) × (reaches w permissions source (phy_group phys i) ≡ true)
  unfolding permitted
  permitted_parts e = both (ready phys i) _ e

  -- as the code asks it: x is whether the source may reach the phy's group g
  module _ (g : ℕ) (x : Bool) (eg : g ≡ phy_group phys i) (e : x ≡ reaches w permissions source g) where
    pub permitted_off : not x ≡ true → false ≡ permitted w phys permissions source i
    unfolding permitted
    permitted_off h = rw (← eg, ← e, not-true x h, and-false (ready phys i))

    pub permitted_on : not x ≡ false → ready phys i ≡ permitted w phys permissions source i
    unfolding permitted
    permitted_on h = rw (← eg, ← e, not-false x h, and-true (ready phys i))

  pub in_port_parts : (j : ℕ) → permitted_in_port w phys permissions source i j ≡ true → (permitted w phys permissions source j ≡ true) × (same_port phys i j ≡ true)
  unfolding permitted_in_port
  in_port_parts j e = both (permitted w phys permissions source j) _ e

  pub in_port_is : (j : ℕ) → permitted w phys permissions source j ≡ true → same_port phys i j ≡ true → permitted_in_port w phys permissions source i j ≡ true
  unfolding permitted_in_port
  in_port_is j p e = rw (p, e)

  pub in_port_not : (j : ℕ) → same_port phys i j ≡ false → permitted_in_port w phys permissions source i j ≡ false
  unfolding permitted_in_port
  in_port_not j e = rw e (and-false (permitted w phys permissions source j))

-- ---- whether phy i is told
module _ (w : ℕ) (phys permissions : List ℕ) (phy source i : ℕ) where
  pub told_parts : told w phys permissions phy source i ≡ true
      → (permitted w phys permissions source i ≡ true) × (same_port phys phy i ≡ false) × (some (permitted_in_port w phys permissions source i) i ≡ false)
  unfolding told
  told_parts e =
      let a = both (permitted w phys permissions source i) _ e in
      let b = both (not (same_port phys phy i)) _ a.1 in
      (a.0, not-true _ b.0, not-true _ b.1)

  pub told_is : permitted w phys permissions source i ≡ true → same_port phys phy i ≡ false → some (permitted_in_port w phys permissions source i) i ≡ false
      → told w phys permissions phy source i ≡ true
  unfolding told
  told_is p o n = rw (p, o, n)

  pub told_later : (j : ℕ) → j < i → permitted_in_port w phys permissions source i j ≡ true → told w phys permissions phy source i ≡ false
  unfolding told
  told_later j l e = rw (some_one (permitted_in_port w phys permissions source i) i j l e, and-false (not (same_port phys phy i))) (and-false (permitted w phys permissions source i))

  -- beyond the table
  pub told_out : length phys % phy_record ≡ 0 → phy_count phys ≤ i → false ≡ told w phys permissions phy source i
  unfolding told permitted
  told_out e h = rw (← ready_out phys i e h)

  -- in the arriving port, the arriving phy among them
  told_own : same_port phys phy i ≡ true → told w phys permissions phy source i ≡ false
  unfolding told
  told_own e = rw e (and-false (permitted w phys permissions source i))

  -- not permitted
  pub told-barred : reaches w permissions source (phy_group phys i) ≡ false → told w phys permissions phy source i ≡ false
  unfolding told permitted
  told-barred p = rw (p, and-false (ready phys i))

  -- in the set exactly if told
  pub in_set : i < 128 → member (told_set w phys permissions phy source) i ≡ told w phys permissions phy source i
  unfolding told_set
  in_set h = member-set_of (told w phys permissions phy source) i h

  -- a phy whose group the source may not reach is in no set
  pub barred : i < 128 → reaches w permissions source (phy_group phys i) ≡ false → member (told_set w phys permissions phy source) i ≡ false
  barred h p = in_set h ∙ told-barred p

pub told_self : (w : ℕ) (phys permissions : List ℕ) (phy source : ℕ) → told w phys permissions phy source phy ≡ false
told_self w phys permissions phy source = told_own w phys permissions phy source phy (port_self phys phy phy refl)

pub length-told : (w : ℕ) (phys permissions : List ℕ) (phy source : ℕ) → length (told_set w phys permissions phy source) ≡ 16
unfolding told_set
length-told w phys permissions phy source = length-set_of _

-- ---- of a port the lowest permitted phy
module _ (w : ℕ) (phys permissions : List ℕ) (phy source : ℕ) where
  -- no permitted phy of its port is lower
  pub told_lowest : (i j : ℕ) → told w phys permissions phy source i ≡ true → permitted w phys permissions source j ≡ true → same_port phys i j ≡ true → i ≤ j
  told_lowest i j e c p = go (dec_lt j i)
    where
      go : Dec (j < i) → i ≤ j
      go (yes l) = never (sym (told_later w phys permissions phy source i j l (in_port_is w phys permissions source i j c p)) ∙ e)
      go (no n) = omega arith

  -- so a port has at most one phy that is told
  pub told_once : (i j : ℕ) → told w phys permissions phy source i ≡ true → told w phys permissions phy source j ≡ true → same_port phys i j ≡ true → i ≡ j
  told_once i j e d p =
      let a = told_lowest i j e (told_parts w phys permissions phy source j d).0 p in
      let b = told_lowest j i d (told_parts w phys permissions phy source i e).0 (port_sym phys i j p) in
      omega arith

-- a phy of i's port that is told
pub record Named (w : ℕ) (phys permissions : List ℕ) (phy source i : ℕ) : Type 0 where
  pub at : ℕ
  pub low : at ≤ i
  pub named : told w phys permissions phy source at ≡ true
  pub port : same_port phys at i ≡ true

-- each other port with a permitted phy has one
module _ (w : ℕ) (phys permissions : List ℕ) (phy source : ℕ) where
  up_to : (n i : ℕ) → i < n → permitted w phys permissions source i ≡ true → same_port phys phy i ≡ false → Named w phys permissions phy source i
  up_to zero i l c o = absurd (omega arith)
  up_to (suc n) i l c o = go (some (permitted_in_port w phys permissions source i) i) refl (up_to n)
    where
      go : (v : Bool) → some (permitted_in_port w phys permissions source i) i ≡ v
          → ((j : ℕ) → j < n → permitted w phys permissions source j ≡ true → same_port phys phy j ≡ false → Named w phys permissions phy source j)
          → Named w phys permissions phy source i
      go false e r = record { at = i; low = omega arith; named = told_is w phys permissions phy source i c o e; port = port_self phys i i refl }
      go true e r =
          let s = some_at (permitted_in_port w phys permissions source i) i e in
          let b = in_port_parts w phys permissions source i s.at s.on in
          let m = r s.at (omega (arith, s.below)) b.0 (port_outside phys phy i s.at o b.1) in
          record { at = m.at; low = omega (arith, m.low, s.below); named = m.named; port = port_trans phys m.at s.at i m.port (port_sym phys i s.at b.1) }

  pub port_named : (i : ℕ) → permitted w phys permissions source i ≡ true → same_port phys phy i ≡ false → Named w phys permissions phy source i
  port_named i c o = up_to (suc i) i (omega arith) c o
