-- The ways out of the election's inner functions, and one step of each table, over plain values.
-- Assumes nothing.
use mathlib.Core.Path.{◌≡◌, refl, sym, ap, ap₂, ◌∙◌}
use mathlib.Core.Bool.{Bool, true, false, not, ◌&&◌}
use mathlib.Core.List.{List, [], ◌∷◌, ◌++◌}
use Prim.Native.Nat.{ℕ, suc, ◌+◌, ◌-◌, ◌*◌, ◌≤◌, ◌<◌}
use native.Mathlib.Numerals.{add-one}
use native.Mathlib.Omega.{arith}
use borrow.Author.Tests.{lt-ltb, le-ltb, eq-eqb, ne_eqb, not-true, not-false}
use Rattle.std.proofs.Common.{Ordering, Option, None}
use Rattle.std.proofs.lemmas.Bool.Decides.{nat_tests}
use Rattle.std.specs.Ordering.{nat_cmp, ordering_then, ord_max}
use Rattle.wire.specs.declared.ZoneGroup.{ZoneGroup}
use Rattle.wire.specs.Groups.{is_group}
use Rattle.wire.proofs.Loops.{left}
use lib.ListN.{length}
use Rattle.tables.specs.Refusals.{first_refusal}
use Rattle.tables.specs.Outcome.{answer}
use Rattle.tables.specs.Phys.{phy_record, phys_sized}
use Rattle.tables.proofs.RefusalLaws.{clear}
use Rattle.tables.proofs.ArrivalLaws.{phys_records}
use Rattle.election.specs.declared.Candidate.{Candidate}
use Rattle.election.specs.Election.{fit, candidate, phy_candidate, phy_candidates, route_candidate, route_candidates, beats, better, best, nobody, elect_checks}
use Rattle.election.proofs.ElectionLaws.{candidate-same}

-- ---- `elect`: where nothing is refused, the phy table has 128 records at most
pub elect_most : (phys routes : List ℕ) → 0 ≡ first_refusal (elect_checks phys routes) → length phys ≤ 128 * phy_record
elect_most phys routes e = (phys_records phys (not-false (phys_sized phys) (clear (elect_checks phys routes) 0 e refl tt).0)).1

-- ---- `update`: the derived order is that of the candidates
abbrev pub by_fields : Candidate → Candidate → Ordering
by_fields c d = ordering_then (nat_cmp c.priority d.priority) (nat_cmp c.address d.address)

pub greater : (r b c : Candidate) → r ≡ ord_max by_fields b c → r ≡ better c b
unfolding beats
greater r b c e =
    let one : b.priority ≡ c.priority → b.address ≡ c.address → b ≡ c = candidate-same b c in
    grind (arith, nat_tests)

-- ---- `consider`
pub no_address : (b : Candidate) (p a : ℕ) → 0 < p → a ≡ 0 → b ≡ best b (candidate (fit p a) p a)
unfolding best
no_address b p a h e = rw (lt-ltb 0 p h, eq-eqb a 0 e)

pub stands : (b r : Candidate) (p a : ℕ) → 0 < p → (a ≡ 0 → ⊥) → r ≡ better (record { priority = p; address = a }) b
    → r ≡ best b (candidate (fit p a) p a)
unfolding best
stands b r p a h n e = rw (lt-ltb 0 p h, ne_eqb a 0 n) e

-- ---- both steps: a record of a lower priority than b is not elected, whether it stands or not
pub lower : (b : Candidate) (v : Bool) (q p a : ℕ) → q ≡ p → q < b.priority → b ≡ best b (candidate v p a)
unfolding best beats
lower b true q p a e h =
    let l : p ≤ b.priority = omega arith in
    let n : b.priority ≡ p → ⊥ = λ i. omega arith in
    rw (le-ltb _ _ l, ne_eqb _ _ n)
lower b false q p a e h = refl

-- nor is one of priority 0
pub zero_priority : (b : Candidate) (v : Bool) (q p a : ℕ) → q ≡ p → q ≡ 0 → b ≡ best b (candidate (v && fit p a) p a)
unfolding best
zero_priority b true q p a i z = let l : p ≤ 0 = omega arith in rw (le-ltb 0 p l)
zero_priority b false q p a i z = refl

-- ---- `with_phy`, where k tells whether the phy is ready
pub not_ready_lem : (b : Candidate) (k v w : Bool) (p a : ℕ) → k ≡ v → not k ≡ true → b ≡ best b (candidate (v && w) p a)
unfolding best
not_ready_lem b k v w p a e h = let f : k ≡ false = not-true k h in rw (← e, f)

-- ---- `with_route`, where o is what its group byte names
pub no_group : (b : Candidate) (o m : Option ZoneGroup) (w : Bool) (p a : ℕ) → o ≡ m → o ≡ None → b ≡ best b (candidate (is_group m && w) p a)
unfolding best
no_group b o m w p a e n = rw (← e, n)

-- ---- the best of two lists is carried from the first into the second
pub best-append : (b : Candidate) (cs ds : List Candidate) → best b (cs ++ ds) ≡ best (best b cs) ds
unfolding best
best-append b [] ds = refl
best-append b (c ∷ cs) ds = best-append (better c b) cs ds

pub carried : (cs ds : List Candidate) (p r : Candidate) → p ≡ best nobody cs → r ≡ best p ds → r ≡ best nobody (cs ++ ds)
carried cs ds p r e g = g ∙ ap (λ (b : Candidate). best b ds) e ∙ sym (best-append nobody cs ds)

-- the invariant of both loops: the best of `so far` and what is left of the n records is the best of all
pub record Carried (cs : ℕ → ℕ → List Candidate) (n : ℕ) (b₀ b : Candidate) (i : ℕ) : Type 0 where
  pub within : i ≤ n
  pub whole : best b₀ (cs 0 n) ≡ best b (cs i (n - i))

carry_again : (cs : ℕ → ℕ → List Candidate) (one : ℕ → List Candidate) (n : ℕ) (b₀ b c : Candidate) (i : ℕ)
    → ((k m : ℕ) → cs k (suc m) ≡ one k ++ cs (suc k) m)
    → i < n → c ≡ best b (one i) → Carried cs n b₀ b i → Carried cs n b₀ c (i + 1)
carry_again cs one n b₀ b c i f h e r = record {
  within = omega arith;
  whole =
      r.whole
      ∙ ap (λ (m : ℕ). best b (cs i m)) (left n i h)
      ∙ ap (best b) (f i (n - (i + 1)))
      ∙ best-append b (one i) (cs (suc i) (n - (i + 1)))
      ∙ ap₂ (λ (d : Candidate) (k : ℕ). best d (cs k (n - (i + 1)))) (sym e) (sym (add-one i));
}

carry_end : (cs : ℕ → ℕ → List Candidate) (n : ℕ) (b₀ b : Candidate) (i : ℕ) → ((k : ℕ) → cs k 0 ≡ [])
    → n ≤ i → Carried cs n b₀ b i → b ≡ best b₀ (cs 0 n)
unfolding best
carry_end cs n b₀ b i f h r =
    let l = r.within in
    let e : n - i ≡ 0 = omega arith in
    sym (r.whole ∙ ap (λ (m : ℕ). best b (cs i m)) e ∙ ap (best b) (f i))

-- ---- one step of each table, and its end
module _ (phys : List ℕ) (n : ℕ) (b₀ b : Candidate) (i : ℕ) where
  pub phys_again : (c : Candidate) → i < n → c ≡ best b (phy_candidate phys i) → Carried (phy_candidates phys) n b₀ b i
      → Carried (phy_candidates phys) n b₀ c (i + 1)
  unfolding phy_candidates
  phys_again c h e r = carry_again (phy_candidates phys) (phy_candidate phys) n b₀ b c i (λ k m. refl) h e r

  pub phys_end : n ≤ i → Carried (phy_candidates phys) n b₀ b i → b ≡ best b₀ (phy_candidates phys 0 n)
  unfolding phy_candidates
  phys_end h r = carry_end (phy_candidates phys) n b₀ b i (λ k. refl) h r

module _ (routes : List ℕ) (n : ℕ) (b₀ b : Candidate) (i : ℕ) where
  pub routes_again : (c : Candidate) → i < n → c ≡ best b (route_candidate routes i) → Carried (route_candidates routes) n b₀ b i
      → Carried (route_candidates routes) n b₀ c (i + 1)
  unfolding route_candidates
  routes_again c h e r = carry_again (route_candidates routes) (route_candidate routes) n b₀ b c i (λ k m. refl) h e r

  pub routes_end : n ≤ i → Carried (route_candidates routes) n b₀ b i → b ≡ best b₀ (route_candidates routes 0 n)
  unfolding route_candidates
  routes_end h r = carry_end (route_candidates routes) n b₀ b i (λ k. refl) h r

-- ---- `elect`: the answer's two numbers
pub supervises : (r c : Candidate) → r ≡ c → answer (r.priority ∷ r.address ∷ []) ≡ answer (c.priority ∷ c.address ∷ [])
supervises r c e = ap (λ (x : Candidate). answer (x.priority ∷ x.address ∷ [])) e
