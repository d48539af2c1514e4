-- The elected is a candidate that no candidate beats, or nobody where there is no candidate; and there is only one such.
-- Assumes nothing.
use mathlib.Core.Path.{◌≡◌, refl, sym, ap₂, ◌∙◌, subst}
use mathlib.Core.Bool.{Bool, true, false, cond, ◌&&◌, true≢false}
use mathlib.Core.List.Memᴰ
use mathlib.Core.List.{List, [], ◌∷◌, ◌++◌, Memᴰ}
use mathlib.Core.Logic.{◌⊎◌, inl, inr}
use Prim.Native.Nat.{ℕ, zero, suc, ◌≤◌, ◌<◌}
use native.Mathlib.Decide.{ℕ_discrete, dec_lt}
use native.Mathlib.Omega.{arith}
use mir.Syntax.{w8}
use mir.Val.{Fits}
use borrow.Author.Tests.{lt-ltb, le-ltb, eq-eqb, ne_eqb}
use Rattle.wire.specs.Groups.{is_group}
use Rattle.tables.specs.Phys.{phy_count, phy_priority, phy_address, ready}
use Rattle.tables.specs.Routes.{route_count, route_group, route_priority, route_address}
use Rattle.election.specs.declared.Candidate.{Candidate}
use Rattle.election.specs.Election.{fit, candidate, phy_candidate, phy_candidates, route_candidate, route_candidates, candidates, beats, better, best, nobody, elected, Greatest}

-- ---- the order: d is at most c
abbrev AtMost : Candidate → Candidate → Type 0
AtMost d c = (d.priority ≤ c.priority) × (d.priority ≡ c.priority → d.address ≤ c.address)

-- either d does not beat c, and is at most c, or it does, and c is at most d
Stands : Candidate → Candidate → Bool → Type 0
Stands d c v = (AtMost d c × (v ≡ false)) ⊎ (AtMost c d × (v ≡ true))

stands : (d c : Candidate) → Stands d c (beats d c)
unfolding beats Stands
stands d c = go (dec_lt c.priority d.priority) (ℕ_discrete c.priority d.priority) (dec_lt c.address d.address)
  where
    go : Dec (c.priority < d.priority) → Dec (c.priority ≡ d.priority) → Dec (c.address < d.address) → Stands d c (beats d c)
    go (yes l) e a = inr ((omega arith, λ q. absurd (omega arith)), rw (lt-ltb _ _ l))
    go (no l) (yes e) (yes a) =
        let p : d.priority ≤ c.priority = omega arith in
        inr ((omega arith, λ q. omega arith), rw (le-ltb _ _ p, eq-eqb _ _ e, lt-ltb _ _ a))
    go (no l) (yes e) (no a) =
        let p : d.priority ≤ c.priority = omega arith in
        let q : d.address ≤ c.address = omega arith in
        inl ((p, λ z. q), rw (le-ltb _ _ p, eq-eqb _ _ e, le-ltb _ _ q))
    go (no l) (no n) a =
        let p : d.priority ≤ c.priority = omega arith in
        inl ((p, λ z. absurd (n (sym z))), rw (le-ltb _ _ p, ne_eqb _ _ n))

-- what a candidate that does not beat c is, and one that does
not_above : (d c : Candidate) → beats d c ≡ false → AtMost d c
unfolding Stands
not_above d c e = go (stands d c)
  where
    go : Stands d c (beats d c) → AtMost d c
    go (inl s) = s.0
    go (inr s) = absurd (let z : ◌≡◌ {A = Bool} true false = cc in true≢false z)

above : (d c : Candidate) → beats d c ≡ true → AtMost c d
unfolding Stands
above d c e = go (stands d c)
  where
    go : Stands d c (beats d c) → AtMost c d
    go (inl s) = absurd (let z : ◌≡◌ {A = Bool} true false = cc in true≢false z)
    go (inr s) = s.0

at_most : (d c : Candidate) → AtMost d c → beats d c ≡ false
unfolding beats
at_most d c h = go (ℕ_discrete c.priority d.priority)
  where
    go : Dec (c.priority ≡ d.priority) → beats d c ≡ false
    go (yes e) = rw (le-ltb _ _ h.0, eq-eqb _ _ e, le-ltb _ _ (h.1 (sym e)))
    go (no n) = rw (le-ltb _ _ h.0, ne_eqb _ _ n)

through : (a b c : Candidate) → AtMost a b → AtMost b c → AtMost a c
through a b c h k = (
  omega arith,
  λ e.
      let p : a.priority ≡ b.priority = omega arith in
      let q : b.priority ≡ c.priority = omega arith in
      omega (arith, h.1 p, k.1 q),
)

-- ---- the best of b and cs is one of them, and each of them is at most it
record Top (r b : Candidate) (cs : List Candidate) : Type 0 where
  member : Memᴰ r (b ∷ cs)
  most : (d : Candidate) → Memᴰ d (b ∷ cs) → AtMost d r

top : (b : Candidate) (cs : List Candidate) → Top (best b cs) b cs
unfolding best
top b [] = record { member = Memᴰ.head refl; most = only }
  where
    only : (d : Candidate) → Memᴰ d (b ∷ []) → AtMost d b
    only d (Memᴰ.head e) = subst (λ (x : Candidate). AtMost x b) (sym e) (omega arith, λ q. omega arith)
    only d (Memᴰ.tail m) = absurd (Memᴰ.not-nil m)
top b (c ∷ cs) = more (beats c b) refl (top (cond (beats c b) c b) cs)
  where
    more : (v : Bool) → beats c b ≡ v → Top (best (cond v c b) cs) (cond v c b) cs → Top (best (cond v c b) cs) b (c ∷ cs)
    more true e t = record { member = Memᴰ.tail t.member; most = all }
      where
        all : (d : Candidate) → Memᴰ d (b ∷ c ∷ cs) → AtMost d (best c cs)
        all d (Memᴰ.head q) =
            subst (λ (x : Candidate). AtMost x (best c cs)) (sym q)
            (through b c (best c cs) (above c b e) (t.most c (Memᴰ.head refl)))
        all d (Memᴰ.tail m) = t.most d m
    more false e t = record { member = skip t.member; most = all }
      where
        skip : Memᴰ (best b cs) (b ∷ cs) → Memᴰ (best b cs) (b ∷ c ∷ cs)
        skip (Memᴰ.head q) = Memᴰ.head q
        skip (Memᴰ.tail m) = Memᴰ.tail (Memᴰ.tail m)

        all : (d : Candidate) → Memᴰ d (b ∷ c ∷ cs) → AtMost d (best b cs)
        all d (Memᴰ.head q) = t.most d (Memᴰ.head q)
        all d (Memᴰ.tail (Memᴰ.head q)) =
            subst (λ (x : Candidate). AtMost x (best b cs)) (sym q)
            (through c b (best b cs) (not_above c b e) (t.most b (Memᴰ.head refl)))
        all d (Memᴰ.tail (Memᴰ.tail m)) = t.most d (Memᴰ.tail m)

-- ---- every candidate's priority is above 0, so it beats nobody's
AboveZero : List Candidate → Type 0
AboveZero [] = Unit
AboveZero (c ∷ cs) = (0 < c.priority) × AboveZero cs

zero_append : (cs ds : List Candidate) → AboveZero cs → AboveZero ds → AboveZero (cs ++ ds)
unfolding AboveZero
zero_append [] ds h k = k
zero_append (c ∷ cs) ds h k = (h.0, zero_append cs ds h.1 k)

stands_above : (v : Bool) (p a : ℕ) → 0 < p → AboveZero (candidate v p a)
unfolding AboveZero
stands_above true p a h = (h, tt)
stands_above false p a h = tt

one_above : (v : Bool) (p a : ℕ) → AboveZero (candidate (v && fit p a) p a)
unfolding AboveZero
one_above v p a = go v (dec_lt 0 p)
  where
    go : (v : Bool) → Dec (0 < p) → AboveZero (candidate (v && fit p a) p a)
    go v (yes h) = stands_above (v && fit p a) p a h
    go true (no n) = let l : p ≤ 0 = omega arith in rw (le-ltb 0 p l) tt
    go false (no n) = tt

phys_above : (phys : List ℕ) (i n : ℕ) → AboveZero (phy_candidates phys i n)
unfolding AboveZero phy_candidates
phys_above phys i zero = tt
phys_above phys i (suc n) =
    zero_append (phy_candidate phys i) (phy_candidates phys (suc i) n)
    (one_above (ready phys i) (phy_priority phys i) (phy_address phys i))
    (phys_above phys (suc i) n)

routes_above : (routes : List ℕ) (i n : ℕ) → AboveZero (route_candidates routes i n)
unfolding AboveZero route_candidates
routes_above routes i zero = tt
routes_above routes i (suc n) =
    zero_append (route_candidate routes i) (route_candidates routes (suc i) n)
    (one_above (is_group (route_group routes i)) (route_priority routes i) (route_address routes i))
    (routes_above routes (suc i) n)

over_nobody : (c : Candidate) (cs : List Candidate) → 0 < c.priority → best nobody (c ∷ cs) ≡ best c cs
unfolding best beats
over_nobody c cs h = rw (lt-ltb 0 c.priority h)

-- ---- the theorem
chosen : (cs : List Candidate) → AboveZero cs → Greatest (best nobody cs) cs
unfolding best AboveZero
chosen [] h = inr (refl, refl)
chosen (c ∷ cs) h =
    subst (λ (r : Candidate). Greatest r (c ∷ cs)) (sym (over_nobody c cs h.0))
    (inl ((top c cs).member, λ d m. at_most d (best c cs) ((top c cs).most d m)))

pub greatest : (phys routes : List ℕ) → Greatest (elected phys routes) (candidates phys routes)
greatest phys routes =
    chosen (candidates phys routes)
    (zero_append (phy_candidates phys 0 (phy_count phys)) (route_candidates routes 0 (route_count routes))
    (phys_above phys 0 (phy_count phys))
    (routes_above routes 0 (route_count routes)))

-- ---- and the greatest is one
pub candidate-same : (c d : Candidate) → c.priority ≡ d.priority → c.address ≡ d.address → c ≡ d
candidate-same c d p q = ap₂ (λ (x y : ℕ). record { priority = x; address = y }) p q

equal : (c d : Candidate) → AtMost c d → AtMost d c → c ≡ d
equal c d h k =
    let p : c.priority ≡ d.priority = omega arith in
    let q : c.address ≡ d.address = omega (arith, h.1 p, k.1 (sym p)) in
    candidate-same c d p q

empty : (c : Candidate) (cs : List Candidate) → Memᴰ c cs → cs ≡ [] → ⊥
empty c cs m e = Memᴰ.not-nil (subst (Memᴰ c) e m)

pub greatest_one : (cs : List Candidate) (c d : Candidate) → Greatest c cs → Greatest d cs → c ≡ d
greatest_one cs c d (inl h) (inl k) = equal c d (not_above c d (k.1 c h.0)) (not_above d c (h.1 d k.0))
greatest_one cs c d (inl h) (inr k) = absurd (empty c cs h.0 k.1)
greatest_one cs c d (inr h) (inl k) = absurd (empty d cs k.0 h.1)
greatest_one cs c d (inr h) (inr k) = h.0 ∙ sym k.0

-- ---- a priority has four bits
-- every candidate's does
abbrev Small : List Candidate → Type 0
Small [] = Unit
Small (c ∷ cs) = (c.priority < 16) × Small cs

small-append : (cs ds : List Candidate) → Small cs → Small ds → Small (cs ++ ds)
small-append [] ds hc hd = hd
small-append (c ∷ cs) ds hc hd = (hc.0, small-append cs ds hc.1 hd)

small-candidate : (b : Bool) (p a : ℕ) → p < 16 → Small (candidate b p a)
small-candidate true p a h = (h, tt)
small-candidate false p a h = tt

small_phys : (phys : List ℕ) (i n : ℕ) → Small (phy_candidates phys i n)
unfolding phy_candidates
small_phys phys i zero = tt
small_phys phys i (suc n) = small-append (phy_candidate phys i) (phy_candidates phys (suc i) n) (small-candidate (ready phys i && fit (phy_priority phys i) (phy_address phys i)) (phy_priority phys i) (phy_address phys i) (omega arith)) (small_phys phys (suc i) n)

small_routes : (routes : List ℕ) (i n : ℕ) → Small (route_candidates routes i n)
unfolding route_candidates
small_routes routes i zero = tt
small_routes routes i (suc n) = small-append (route_candidate routes i) (route_candidates routes (suc i) n) (small-candidate (is_group (route_group routes i) && fit (route_priority routes i) (route_address routes i)) (route_priority routes i) (route_address routes i) (omega arith)) (small_routes routes (suc i) n)

small-better : (x : Bool) (c b : Candidate) → c.priority < 16 → b.priority < 16 → (cond x c b).priority < 16
small-better true c b hc hb = hc
small-better false c b hc hb = hb

small-best : (b : Candidate) (cs : List Candidate) → b.priority < 16 → Small cs → (best b cs).priority < 16
unfolding best
small-best b [] hb hs = hb
small-best b (c ∷ cs) hb hs = small-best (better c b) cs (small-better (beats c b) c b hs.0 hb) hs.1

-- so does the elected one's
pub elected-small : (phys routes : List ℕ) → (elected phys routes).priority < 16
elected-small phys routes =
    small-best nobody (candidates phys routes) (omega arith)
    (small-append (phy_candidates phys 0 (phy_count phys)) (route_candidates routes 0 (route_count routes)) (small_phys phys 0 (phy_count phys)) (small_routes routes 0 (route_count routes)))

pub elected_fits : (phys routes : List ℕ) (b : Candidate) → b ≡ elected phys routes → Fits w8 b.priority
elected_fits phys routes b e = rw e (record { fits = omega (arith, elected-small phys routes) })
