-- Ports: to be in one port is an equivalence.
-- Assumes nothing.
use mathlib.Core.Path.{◌≡◌, refl, sym, ap, ◌∙◌}
use mathlib.Core.Bool.{Bool, true, false, not, ◌&&◌, ◌||◌, or-true, and_assoc}
use mathlib.Core.List.{List}
use mathlib.Core.Logic.{◌⊎◌, inl, inr}
use Prim.Native.Nat.{ℕ}
use borrow.Author.Tests.{eq-eqb, ne_eqb, eqb-true, eqb-false, not-true}
use lib.Dec.{eqb}
use Rattle.tables.specs.Phys.{ready, phy_address}
use Rattle.tables.specs.Ports.{same_port}
use Rattle.tables.proofs.ArrivalLaws.{never, both}

-- two ready phys with the same address, which is not zero
pub record Sisters (phys : List ℕ) (i j : ℕ) : Type 0 where
  pub first : ready phys i ≡ true
  pub second : ready phys j ≡ true
  pub known : phy_address phys i ≡ 0 → ⊥
  pub same : phy_address phys i ≡ phy_address phys j

-- in one port: the same phy, or sisters
pub port_view : (phys : List ℕ) (i j : ℕ) → same_port phys i j ≡ true → (i ≡ j) ⊎ Sisters phys i j
unfolding same_port
port_view phys i j e = go (eqb i j) refl e
  where
    sisters : ((ready phys i && ready phys j) && (not (eqb (phy_address phys i) 0) && eqb (phy_address phys i) (phy_address phys j))) ≡ true → Sisters phys i j
    sisters h =
        let parts = both (ready phys i && ready phys j) _ h in
        let up = both (ready phys i) (ready phys j) parts.0 in
        let address = both (not (eqb (phy_address phys i) 0)) _ parts.1 in
        record {
          first = up.0;
          second = up.1;
          known = eqb-false _ _ (not-true _ address.0);
          same = eqb-true _ _ address.1;
        }

    go : (s : Bool) → eqb i j ≡ s
        → (s || ((ready phys i && ready phys j) && (not (eqb (phy_address phys i) 0) && eqb (phy_address phys i) (phy_address phys j)))) ≡ true
        → (i ≡ j) ⊎ Sisters phys i j
    go true es h = inl (eqb-true i j es)
    go false es h = inr (sisters h)

pub port_self : (phys : List ℕ) (i j : ℕ) → i ≡ j → same_port phys i j ≡ true
unfolding same_port
port_self phys i j e = rw (eq-eqb i j e)

pub port_sisters : (phys : List ℕ) (i j : ℕ) → Sisters phys i j → same_port phys i j ≡ true
unfolding same_port
port_sisters phys i j r =
    rw (r.first, r.second, ne_eqb (phy_address phys i) 0 r.known, eq-eqb (phy_address phys i) (phy_address phys j) r.same) (or-true (eqb i j))

pub port_sym : (phys : List ℕ) (i j : ℕ) → same_port phys i j ≡ true → same_port phys j i ≡ true
port_sym phys i j e = go (port_view phys i j e)
  where
    go : (i ≡ j) ⊎ Sisters phys i j → same_port phys j i ≡ true
    go (inl p) = port_self phys j i (sym p)
    go (inr r) = port_sisters phys j i (record { first = r.second; second = r.first; known = λ z. r.known (r.same ∙ z); same = sym r.same })

pub port_trans : (phys : List ℕ) (i j k : ℕ) → same_port phys i j ≡ true → same_port phys j k ≡ true → same_port phys i k ≡ true
port_trans phys i j k e d = go (port_view phys i j e) (port_view phys j k d)
  where
    go : (i ≡ j) ⊎ Sisters phys i j → (j ≡ k) ⊎ Sisters phys j k → same_port phys i k ≡ true
    go (inl p) y = ap (λ (x : ℕ). same_port phys x k) p ∙ d
    go (inr r) (inl q) = ap (λ (x : ℕ). same_port phys i x) (sym q) ∙ e
    go (inr r) (inr q) = port_sisters phys i k (record { first = r.first; second = q.second; known = r.known; same = r.same ∙ q.same })

-- two phys that are neither the same nor sisters are in two ports
pub port_apart : (phys : List ℕ) (i j : ℕ) → (i ≡ j → ⊥) → (Sisters phys i j → ⊥) → same_port phys i j ≡ false
port_apart phys i j ne ns = go (same_port phys i j) refl
  where
    apart : (i ≡ j) ⊎ Sisters phys i j → ⊥
    apart (inl p) = ne p
    apart (inr r) = ns r

    go : (v : Bool) → same_port phys i j ≡ v → v ≡ false
    go true e = absurd (apart (port_view phys i j e))
    go false e = refl

-- all phys of a port have one address
pub port_address : (phys : List ℕ) (i j : ℕ) → same_port phys i j ≡ true → phy_address phys i ≡ phy_address phys j
port_address phys i j e = go (port_view phys i j e)
  where
    go : (i ≡ j) ⊎ Sisters phys i j → phy_address phys i ≡ phy_address phys j
    go (inl p) = ap (phy_address phys) p
    go (inr r) = r.same

-- who has no sister is a port by itself: a phy that is not ready, and one with address zero
port_alone : (phys : List ℕ) (i j : ℕ) → (Sisters phys i j → ⊥) → same_port phys i j ≡ true → i ≡ j
port_alone phys i j ns e = go (port_view phys i j e)
  where
    go : (i ≡ j) ⊎ Sisters phys i j → i ≡ j
    go (inl p) = p
    go (inr r) = absurd (ns r)

pub port_unready : (phys : List ℕ) (i j : ℕ) → ready phys i ≡ false → same_port phys i j ≡ true → i ≡ j
port_unready phys i j off e = port_alone phys i j (λ r. never (sym off ∙ r.first)) e

pub port_zero : (phys : List ℕ) (i j : ℕ) → phy_address phys i ≡ 0 → same_port phys i j ≡ true → i ≡ j
port_zero phys i j z e = port_alone phys i j (λ r. r.known z) e

-- a phy outside k's port has its whole port outside
pub port_outside : (phys : List ℕ) (k i j : ℕ) → same_port phys k i ≡ false → same_port phys i j ≡ true → same_port phys k j ≡ false
port_outside phys k i j out e = go (same_port phys k j) refl
  where
    go : (v : Bool) → same_port phys k j ≡ v → v ≡ false
    go true p = never (sym out ∙ port_trans phys k j i p (port_sym phys i j e))
    go false p = refl

-- ---- as the code asks it
pub port_same : (phys : List ℕ) (i j : ℕ) → i ≡ j → true ≡ same_port phys i j
port_same phys i j e = sym (port_self phys i j e)

pub port_other : (phys : List ℕ) (i j : ℕ) (a b : Bool) (x y : ℕ) → (i ≡ j → ⊥) → a ≡ ready phys i → b ≡ ready phys j → x ≡ phy_address phys i
    → y ≡ phy_address phys j → (((a && b) && not (eqb x 0)) && eqb x y) ≡ same_port phys i j
unfolding same_port
port_other phys i j a b x y ne ea eb ex ey =
    rw (ne_eqb i j ne, ← ea, ← eb, ← ex, ← ey) (and_assoc (a && b) (not (eqb x 0)) (eqb x y))
