-- The chains by which the code finds whether a permitted phy has a lower one in its port, and the loop that makes the set.
-- Assumes nothing.
use mathlib.Core.Path.{◌≡◌, refl, sym, ap, ◌∙◌}
use mathlib.Core.Bool.{Bool, true, false, not, and-false, and-true}
use mathlib.Core.List.{List, ◌++◌}
use Prim.Native.Nat.{ℕ, zero, suc, ◌+◌, ◌-◌, ◌*◌, ◌%◌, min, ◌≤◌, ◌<◌}
use native.Mathlib.Decide.{ℕ_discrete, dec_lt}
use native.Mathlib.Omega.{arith}
use borrow.Author.Tests.{eq-eqb, ne_eqb, eqb-true, not-true, not-false}
use mir.Syntax.{w8}
use mir.Val.{Fits}
use lib.Dec.{eqb}
use lib.ListN.{length, get_or, set, drop, replicate, length-set, length-append, length-drop, get_or-append}
use lib.Seq.{get_or-set_same, get_or-set_other, drop_at}
use Rattle.wire.specs.Bits.{tab}
use Rattle.wire.specs.PhySet.{set_byte, set_of}
use Rattle.wire.proofs.Loops.{Filled, fill_start, fill_again, fill_rest, fill_end}
use Rattle.wire.proofs.Sets.{Up, up_start, bits_lt, up_room, up_on, up_off, up_end, byte_past}
use Rattle.tables.specs.Phys.{phy_record, phy_count, phy_address, ready, empty_set}
use Rattle.tables.specs.Ports.{same_port}
use Rattle.tables.proofs.ArrivalLaws.{never, both}
use Rattle.tables.proofs.PortLaws.{port_address, port_sisters, port_apart, port_outside}
use Rattle.told_set.specs.ToldSet.{permitted, permitted_in_port, told, told_set}
use Rattle.told_set.specs.Inner.{candidate, slot_of, in_slot, Latest, Chain, Met, ended, found, onward, Kept, Judged, ByteTold}
use Rattle.told_set.proofs.ToldLaws.{some_none, permitted_parts, in_port_parts, in_port_is, in_port_not, told_parts, told_is, told_later, told_out, told_self}

-- ---- candidates
module _ (w : ℕ) (phys permissions : List ℕ) (phy source i : ℕ) where
  candidate_parts : candidate w phys permissions phy source i ≡ true → (permitted w phys permissions source i ≡ true) × (same_port phys phy i ≡ false)
  unfolding candidate
  candidate_parts e = let p = both (permitted w phys permissions source i) _ e in (p.0, not-true _ p.1)

  candidate_is : permitted w phys permissions source i ≡ true → same_port phys phy i ≡ false → candidate w phys permissions phy source i ≡ true
  unfolding candidate
  candidate_is p o = rw (p, o)

  -- who is told is one
  not_told : candidate w phys permissions phy source i ≡ false → false ≡ told w phys permissions phy source i
  not_told e = go (told w phys permissions phy source i) refl
    where
      go : (v : Bool) → told w phys permissions phy source i ≡ v → false ≡ v
      go true t = let p = told_parts w phys permissions phy source i t in never (sym e ∙ candidate_is p.0 p.1)
      go false t = refl

  told-first : candidate w phys permissions phy source i ≡ true → ((j : ℕ) → j < i → permitted_in_port w phys permissions source i j ≡ false)
      → true ≡ told w phys permissions phy source i
  told-first e h =
      let p = candidate_parts e in sym (told_is w phys permissions phy source i p.0 p.1 (some_none (permitted_in_port w phys permissions source i) i h))

-- whose port is another one: an address other than the arriving phy's, or none
outside : (phys : List ℕ) (phy i : ℕ) → (phy_address phys i ≡ phy_address phys phy → ⊥) → same_port phys phy i ≡ false
outside phys phy i ne = port_apart phys phy i (λ e. ne (ap (phy_address phys) (sym e))) (λ r. ne (sym r.same))

outside_zero : (phys : List ℕ) (phy i : ℕ) → (phy ≡ i → ⊥) → phy_address phys i ≡ 0 → same_port phys phy i ≡ false
outside_zero phys phy i ne z = port_apart phys phy i ne (λ r. r.known (r.same ∙ z))

-- ---- the permitted phys of a port
module _ (w : ℕ) (phys permissions : List ℕ) (source i j : ℕ) where
  in_port_other : j < i → (phy_address phys i ≡ phy_address phys j → ⊥) → permitted_in_port w phys permissions source i j ≡ false
  in_port_other l ne = in_port_not w phys permissions source i j (port_apart phys i j (λ e. omega arith) (λ r. ne r.same))

  in_port_none : j < i → phy_address phys i ≡ 0 → permitted_in_port w phys permissions source i j ≡ false
  in_port_none l z = in_port_not w phys permissions source i j (port_apart phys i j (λ e. omega arith) (λ r. r.known z))

  in_port_found : permitted w phys permissions source i ≡ true → permitted w phys permissions source j ≡ true → (phy_address phys i ≡ 0 → ⊥)
      → phy_address phys j ≡ phy_address phys i → permitted_in_port w phys permissions source i j ≡ true
  in_port_found pi pj nz e =
      in_port_is w phys permissions source i j pj
      (port_sisters phys i j (record { first = (permitted_parts w phys permissions source i pi).0; second = (permitted_parts w phys permissions source j pj).0; known = nz; same = sym e }))

-- ---- slots
module _ (w : ℕ) (phys permissions : List ℕ) (phy source : ℕ) where
  in_slot_lem : (h j : ℕ) → (phy_address phys j ≡ 0 → ⊥) → slot_of (phy_address phys j) ≡ h
      → in_slot w phys permissions phy source h j ≡ candidate w phys permissions phy source j
  unfolding in_slot
  in_slot_lem h j nz e = rw (ne_eqb (phy_address phys j) 0 nz, eq-eqb (slot_of (phy_address phys j)) h e) (and-true (candidate w phys permissions phy source j))

  slot_candidate : (h j : ℕ) → in_slot w phys permissions phy source h j ≡ true → candidate w phys permissions phy source j ≡ true
  unfolding in_slot
  slot_candidate h j e = (both _ _ e).0

  slot_is : (h j : ℕ) → in_slot w phys permissions phy source h j ≡ true → slot_of (phy_address phys j) ≡ h
  unfolding in_slot
  slot_is h j e =
      eqb-true _ _ (both (not (eqb (phy_address phys j) 0)) _ (both (candidate w phys permissions phy source j) _ e).1).1

  slot_zero : (h j : ℕ) → phy_address phys j ≡ 0 → in_slot w phys permissions phy source h j ≡ false
  unfolding in_slot
  slot_zero h j z = rw (eq-eqb (phy_address phys j) 0 z) (and-false (candidate w phys permissions phy source j))

  slot_not : (h j : ℕ) → candidate w phys permissions phy source j ≡ false → in_slot w phys permissions phy source h j ≡ false
  unfolding in_slot
  slot_not h j e = rw e

  slot_other : (h j : ℕ) → (slot_of (phy_address phys j) ≡ h → ⊥) → in_slot w phys permissions phy source h j ≡ false
  unfolding in_slot
  slot_other h j ne =
      rw (ne_eqb (slot_of (phy_address phys j)) h ne, and-false (not (eqb (phy_address phys j) 0))) (and-false (candidate w phys permissions phy source j))

  -- a phy that is not in a candidate's slot is not among the permitted phys of its port
  in_port_slot : (i j : ℕ) → j < i → candidate w phys permissions phy source i ≡ true → (phy_address phys i ≡ 0 → ⊥)
      → in_slot w phys permissions phy source (slot_of (phy_address phys i)) j ≡ false → permitted_in_port w phys permissions source i j ≡ false
  in_port_slot i j l ci nz gone = go (permitted_in_port w phys permissions source i j) refl
    where
      go : (v : Bool) → permitted_in_port w phys permissions source i j ≡ v → v ≡ false
      go true e =
          let p = in_port_parts w phys permissions source i j e in
          let o = port_outside phys phy i j (candidate_parts w phys permissions phy source i ci).1 p.1 in
          let a = port_address phys i j p.1 in
          never (sym gone ∙ in_slot_lem (slot_of (phy_address phys i)) j (λ z. nz (a ∙ z)) (ap slot_of (sym a)) ∙ candidate_is w phys permissions phy source j p.0 o)
      go false e = refl

-- ---- the last number at which f is true
latest_skip : (f : ℕ → Bool) (n k : ℕ) → f n ≡ false → Latest f n k → Latest f (n + 1) k
latest_skip f n k e r = record {
  within = omega (arith, r.within);
  here = r.here;
  none = λ j l u. go j l u (ℕ_discrete j n);
}
  where
    go : (j : ℕ) → k ≤ j → j < n + 1 → Dec (j ≡ n) → f j ≡ false
    go j l u (yes p) = ap f p ∙ e
    go j l u (no ne) = r.none j l (omega arith)

latest-take : (f : ℕ → Bool) (n : ℕ) → f n ≡ true → Latest f (n + 1) (n + 1)
latest-take f n e =
    let p : n + 1 - 1 ≡ n = omega arith in
    record { within = omega arith; here = λ l. ap f p ∙ e; none = λ j l u. absurd (omega arith) }

-- ---- the chains
-- phy i's link, just written
linked_here : (next : List ℕ) (i j v : ℕ) → length next ≡ 129 → i < 128 → j ≡ i → get_or (set next (i + 1) v) (j + 1) 0 ≡ v
linked_here next i j v l h p = ap (λ (k : ℕ). get_or (set next (i + 1) v) (k + 1) 0) p ∙ get_or-set_same next (i + 1) v 0 (omega arith)

module _ (w : ℕ) (phys permissions : List ℕ) (phy source : ℕ) where
  -- where all slots are empty
  kept-start : (slots next : List ℕ) → length slots ≡ 256 → length next ≡ 129 → ((h : ℕ) → h < 256 → get_or slots h 0 ≡ 0) → ((j : ℕ) → get_or next j 0 ≡ 0) → Kept w phys permissions phy source 0 slots next
  kept-start slots next zs zn zeros ends = record {
    slotted = zs;
    linked = zn;
    heads = λ h l. rw (zeros h l) (record { within = omega arith; here = λ p. absurd (omega arith); none = λ j a b. absurd (omega arith) });
    links = λ h j l e. absurd (omega arith);
    falls = λ j. omega (arith, ends (j + 1));
  }

  kept_skip : (i : ℕ) (slots next : List ℕ) → ((h : ℕ) → in_slot w phys permissions phy source h i ≡ false) → Kept w phys permissions phy source i slots next
      → Kept w phys permissions phy source (i + 1) slots next
  kept_skip i slots next gone r = record {
    slotted = r.slotted;
    linked = r.linked;
    heads = λ h l. latest_skip _ i _ (gone h) (r.heads h l);
    links = λ h j l e. go h j l e (ℕ_discrete j i);
    falls = r.falls;
  }
    where
      go : (h j : ℕ) → j < i + 1 → in_slot w phys permissions phy source h j ≡ true → Dec (j ≡ i) → Latest (in_slot w phys permissions phy source h) j (get_or next (j + 1) 0)
      go h j l e (yes p) = never (sym (sym e ∙ ap (in_slot w phys permissions phy source h) p ∙ gone h))
      go h j l e (no ne) = r.links h j (omega arith) e

  falls_link : (i slot : ℕ) (slots next : List ℕ) → slot < 256 → i < 128 → Kept w phys permissions phy source i slots next
      → (j : ℕ) → get_or (set next (i + 1) (get_or slots slot 0)) (j + 1) 0 ≤ j
  falls_link i slot slots next ls li r j = go (ℕ_discrete j i)
    where
      go : Dec (j ≡ i) → get_or (set next (i + 1) (get_or slots slot 0)) (j + 1) 0 ≤ j
      go (yes p) =
          let g = linked_here next i j (get_or slots slot 0) r.linked li p in
          omega (arith, (r.heads slot ls).within)
      go (no ne) = rw (get_or-set_other next (i + 1) (j + 1) (get_or slots slot 0) 0 (λ p. ne (omega arith))) (r.falls j)

  kept_link : (i slot : ℕ) (slots next : List ℕ) → candidate w phys permissions phy source i ≡ true → (phy_address phys i ≡ 0 → ⊥)
      → slot_of (phy_address phys i) ≡ slot → slot < 256 → i < 128
      → Kept w phys permissions phy source i slots next
      → Kept w phys permissions phy source (i + 1) (set slots slot (i + 1)) (set next (i + 1) (get_or slots slot 0))
  kept_link i slot slots next ci nz es ls li r = record {
    slotted = simp length-set r.slotted;
    linked = simp length-set r.linked;
    heads = λ h l. head h l (ℕ_discrete h slot);
    links = λ h j l e. link h j l e (ℕ_discrete j i);
    falls = falls_link i slot slots next ls li r;
  }
    where
      head : (h : ℕ) → h < 256 → Dec (h ≡ slot) → Latest (in_slot w phys permissions phy source h) (i + 1) (get_or (set slots slot (i + 1)) h 0)
      head h l (yes p) =
          let e : get_or (set slots slot (i + 1)) h 0 ≡ i + 1 = ap (λ (k : ℕ). get_or (set slots slot (i + 1)) k 0) p ∙ get_or-set_same slots slot (i + 1) 0 (omega (arith, r.slotted)) in
          rw e (latest-take _ i (in_slot_lem w phys permissions phy source h i nz (es ∙ sym p) ∙ ci))
      head h l (no ne) =
          rw (get_or-set_other slots slot h (i + 1) 0 ne) (latest_skip _ i _ (slot_other w phys permissions phy source h i (λ e. ne (sym e ∙ es))) (r.heads h l))

      link : (h j : ℕ) → j < i + 1 → in_slot w phys permissions phy source h j ≡ true → Dec (j ≡ i)
          → Latest (in_slot w phys permissions phy source h) j (get_or (set next (i + 1) (get_or slots slot 0)) (j + 1) 0)
      link h j l e (yes p) =
          let g = linked_here next i j (get_or slots slot 0) r.linked li p in
          let f : h ≡ slot = sym (slot_is w phys permissions phy source h j e) ∙ ap (λ (k : ℕ). slot_of (phy_address phys k)) p ∙ es in
          rw (g, p, f) (r.heads slot ls)
      link h j l e (no ne) = rw (get_or-set_other next (i + 1) (j + 1) (get_or slots slot 0) 0 (λ p. ne (omega arith))) (r.links h j (omega arith) e)

-- ---- the walk along a chain
-- from phy k - 1 on, which is in i's slot; none from k on is a permitted phy of i's port
pub record Walk (w : ℕ) (phys permissions : List ℕ) (phy source i k : ℕ) : Type 0 where
  pub within : k ≤ i
  pub here : 0 < k → in_slot w phys permissions phy source (slot_of (phy_address phys i)) (k - 1) ≡ true
  pub past : (j : ℕ) → k ≤ j → j < i → permitted_in_port w phys permissions source i j ≡ false

-- of a candidate with an address
module _ (w : ℕ) (phys permissions : List ℕ) (phy source i : ℕ) (ci : candidate w phys permissions phy source i ≡ true) (nz : phy_address phys i ≡ 0 → ⊥) where
  walk_start : (k : ℕ) → Latest (in_slot w phys permissions phy source (slot_of (phy_address phys i))) i k → Walk w phys permissions phy source i k
  walk_start k r = record {
    within = r.within;
    here = r.here;
    past = λ j l u. in_port_slot w phys permissions phy source i j u ci nz (r.none j l u);
  }

  walk_again : (k : ℕ) (slots next : List ℕ) → 0 < k → (phy_address phys (k - 1) ≡ phy_address phys i → ⊥) → Kept w phys permissions phy source (i + 1) slots next
      → Walk w phys permissions phy source i k → Walk w phys permissions phy source i (get_or next k 0)
  walk_again k slots next l ne q t =
      let p : k - 1 + 1 ≡ k = omega arith in
      let r = rw p at (q.links _ (k - 1) (omega (arith, t.within)) (t.here l)) in
      record {
        within = omega (arith, t.within, r.within);
        here = r.here;
        past = λ j a b. go r j a b (dec_lt j (k - 1)) (ℕ_discrete j (k - 1));
      }
    where
      go : Latest (in_slot w phys permissions phy source (slot_of (phy_address phys i))) (k - 1) (get_or next k 0) → (j : ℕ) → get_or next k 0 ≤ j → j < i
          → Dec (j < k - 1) → Dec (j ≡ k - 1) → permitted_in_port w phys permissions source i j ≡ false
      go r j a b (yes u) d = in_port_slot w phys permissions phy source i j b ci nz (r.none j a u)
      go r j a b (no u) (yes p) = in_port_other w phys permissions source i j b (λ s. ne (ap (phy_address phys) (sym p) ∙ sym s))
      go r j a b (no u) (no d) = t.past j (omega arith) b

  -- it is told exactly if its address is not met along its chain
  walked : (next slots : List ℕ) (k : ℕ) (r : Bool) → Kept w phys permissions phy source (i + 1) slots next → Walk w phys permissions phy source i k
      → Met phys next (phy_address phys i) k r → not r ≡ told w phys permissions phy source i
  walked next slots k false q t (ended _ _ _ _ z) = told-first w phys permissions phy source i ci (λ j l. t.past j (omega arith) l)
  walked next slots k true q t (found _ _ _ _ l e) =
      sym
      (told_later w phys permissions phy source i (k - 1) (omega (arith, t.within))
      (in_port_found w phys permissions source i (k - 1) (candidate_parts w phys permissions phy source i ci).0
      (candidate_parts w phys permissions phy source (k - 1) (slot_candidate w phys permissions phy source _ (k - 1) (t.here l))).0 nz e))
  walked next slots k r q t (onward _ _ _ _ _ l ne m) = walked next slots (get_or next k 0) r q (walk_again k slots next l ne q t) m

-- ---- the loop along a chain: what is met from k on is met from its start on
pub record Along (phys next : List ℕ) (address from k : ℕ) : Type 0 where
  pub within : k ≤ from
  pub rest : (r : Bool) → Met phys next address k r → Met phys next address from r

-- each step goes down
falls_at : (phys next : List ℕ) (from k : ℕ) → Chain phys next from → 0 < k → get_or next k 0 < k
falls_at phys next from k f l =
    let p : k - 1 + 1 ≡ k = omega arith in
    let h = rw p at (f.falls (k - 1)) in
    omega arith

module _ (phys next : List ℕ) (address from k : ℕ) where
  pub along_again : (a n : ℕ) → Chain phys next from → Along phys next address from k → 0 < k → a ≡ phy_address phys (k - 1) → (a ≡ address → ⊥)
      → n ≡ get_or next k 0 → Along phys next address from n
  along_again a n f w l ea ne e = record {
    within = omega (arith, w.within, falls_at phys next from k f l);
    rest = λ r m. w.rest r (onward phys next address k r l (λ z. ne (ea ∙ z)) (rw e at m));
  }

  pub along_met : (a : ℕ) → Along phys next address from k → 0 < k → a ≡ phy_address phys (k - 1) → a ≡ address → Met phys next address from true
  along_met a w l ea e = w.rest true (found phys next address k l (sym ea ∙ e))

  pub along_end : Along phys next address from k → k ≤ 0 → Met phys next address from false
  along_end w z = w.rest false (ended phys next address k z)

-- ---- the ways out of `is_told`: v is whether phy i is permitted
module _ (w : ℕ) (phys permissions : List ℕ) (phy source i : ℕ) (slots next : List ℕ) (q : Kept w phys permissions phy source i slots next) (v : Bool) (e : v ≡ permitted w phys permissions source i) where
  passed : candidate w phys permissions phy source i ≡ false → Judged w phys permissions phy source i slots next false
  passed n = record {
    answer = not_told w phys permissions phy source i n;
    kept = kept_skip w phys permissions phy source i slots next (λ s. slot_not w phys permissions phy source s i n) q;
  }

  pub judged_barred : not v ≡ true → Judged w phys permissions phy source i slots next false
  unfolding candidate
  judged_barred h = passed (rw (sym e ∙ not-true v h))

  module _ (h : not v ≡ false) where
    on : permitted w phys permissions source i ≡ true
    on = sym e ∙ not-false v h

    pub judged_zero : (a : ℕ) → a ≡ phy_address phys i → a ≡ 0 → Judged w phys permissions phy source i slots next (not (eqb i phy))
    judged_zero a ea z = record {
      answer = go (ℕ_discrete i phy);
      kept = kept_skip w phys permissions phy source i slots next (λ s. slot_zero w phys permissions phy source s i none) q;
    }
      where
        none : phy_address phys i ≡ 0
        none = sym ea ∙ z

        go : Dec (i ≡ phy) → not (eqb i phy) ≡ told w phys permissions phy source i
        go (yes p) = rw (eq-eqb i phy p) (sym (ap (told w phys permissions phy source) p ∙ told_self w phys permissions phy source))
        go (no ne) =
            rw (ne_eqb i phy ne)
            (told-first w phys permissions phy source i (candidate_is w phys permissions phy source i on (outside_zero phys phy i (λ p. ne (sym p)) none))
            (λ j l. in_port_none w phys permissions source i j l none))

    pub judged_own : (a own : ℕ) → ready phys phy ≡ true → own ≡ phy_address phys phy → a ≡ phy_address phys i → (a ≡ 0 → ⊥) → a ≡ own
        → Judged w phys permissions phy source i slots next false
    unfolding candidate
    judged_own a own up eo ea nz s =
        let same : phy_address phys phy ≡ phy_address phys i = sym (sym ea ∙ s ∙ eo) in
        let r = permitted_parts w phys permissions source i on in
        let p : same_port phys phy i ≡ true = port_sisters phys phy i (record { first = up; second = r.0; known = λ z. nz (ea ∙ sym same ∙ z); same = same }) in
        passed (rw p (and-false (permitted w phys permissions source i)))

    pub judged_chain : (a own slot last : ℕ) (r : Bool) → own ≡ phy_address phys phy → a ≡ phy_address phys i → (a ≡ 0 → ⊥) → (a ≡ own → ⊥)
        → length phys ≤ 128 * phy_record → i < phy_count phys → (slot ≡ slot_of a) × (slot < 256) → last ≡ get_or slots slot 0
        → Met phys (set next (i + 1) (get_or slots slot 0)) a last r
        → Judged w phys permissions phy source i (set slots slot (i + 1)) (set next (i + 1) (get_or slots slot 0)) (not r)
    judged_chain a own slot last r eo ea nz other few li es el m =
        let nz' : phy_address phys i ≡ 0 → ⊥ = λ z. nz (ea ∙ z) in
        let ci = candidate_is w phys permissions phy source i on (outside phys phy i (λ s. other (ea ∙ s ∙ sym eo))) in
        let si : slot_of (phy_address phys i) ≡ slot = sym (es.0 ∙ ap slot_of ea) in
        let k = kept_link w phys permissions phy source i slot slots next ci nz' si es.1 (omega arith) q in
        let t : Walk w phys permissions phy source i last = walk_start w phys permissions phy source i ci nz' last (rw (el, si) (q.heads slot es.1)) in
        record { answer = walked w phys permissions phy source i ci nz' (set next (i + 1) (get_or slots slot 0)) (set slots slot (i + 1)) last r k t (rw ea at m); kept = k }

-- ---- the loop that makes a byte: of its phys below i those that are told are in, and the candidates are in the chains
pub record Rising (w : ℕ) (phys permissions : List ℕ) (phy source k : ℕ) (slots next : List ℕ) (byte bit i : ℕ) : Type 0 where
  pub up : Up (told w phys permissions phy source) (8 * k) byte bit i
  pub kept : Kept w phys permissions phy source i slots next

pub rise_start : (w : ℕ) (phys permissions : List ℕ) (phy source k : ℕ) (slots next : List ℕ) → Kept w phys permissions phy source (8 * k) slots next
    → Rising w phys permissions phy source k slots next 0 1 (8 * k)
rise_start w phys permissions phy source k slots next q = record { up = up_start (told w phys permissions phy source) (8 * k); kept = q }

module _ (w : ℕ) (phys permissions : List ℕ) (phy source k : ℕ) (slots next : List ℕ) (byte bit i end : ℕ) (e : end ≡ min (8 * k + 8) (phy_count phys))
    (u : Rising w phys permissions phy source k slots next byte bit i) where
  module _ (h : i < end) where
    short : i < 8 * k + 8
    short = omega arith

    pub rise_room : byte + bit < 65536
    rise_room = let l = up_room (told w phys permissions phy source) (8 * k) byte bit i u.up short in omega arith

    module _ (slots₁ next₁ : List ℕ) (v : Bool) (x : ℕ) (j : Judged w phys permissions phy source i slots₁ next₁ v) where
      pub rise_on : v ≡ true → x ≡ byte + bit → Rising w phys permissions phy source k slots₁ next₁ x (bit + bit) (i + 1)
      rise_on t e = record { up = rw e (up_on (told w phys permissions phy source) (8 * k) byte bit i u.up short (sym t ∙ j.answer)); kept = j.kept }

      pub rise_off : v ≡ false → x ≡ byte → Rising w phys permissions phy source k slots₁ next₁ x (bit + bit) (i + 1)
      rise_off t e = record { up = rw e (up_off (told w phys permissions phy source) (8 * k) byte bit i u.up short (sym t ∙ j.answer)); kept = j.kept }

  module _ (z : length phys % phy_record ≡ 0) (h : end ≤ i) where
    rise_byte : byte ≡ set_byte (told w phys permissions phy source) k
    unfolding set_byte
    rise_byte =
        up_end (told w phys permissions phy source) (8 * k) byte bit i (phy_count phys) u.up (omega arith) (λ m l. told_out w phys permissions phy source m z l)

    pub rise_fits : Fits w8 byte
    unfolding set_byte
    rise_fits = omega (arith, rise_byte, bits_lt (told w phys permissions phy source) (8 * k) 8)

    pub rise_end : ByteTold w phys permissions phy source k slots next byte
    rise_end = record {
      answer = rise_byte;
      kept = λ l. let p : i ≡ 8 * k + 8 = omega (arith, u.up.to) in rw p at u.kept;
    }

-- ---- the loop over the bytes
get_or-zeros : (n j : ℕ) → ◌≡◌ {A = ℕ} (get_or (replicate n 0) j 0) 0
get_or-zeros zero j = refl
get_or-zeros (suc n) zero = refl
get_or-zeros (suc n) (suc j) = get_or-zeros n j

-- its invariant: the first k bytes are made, and the candidates of their phys are in the chains
pub record Telling (w : ℕ) (phys permissions : List ℕ) (phy source : ℕ) (set₀ set slots next : List ℕ) (k : ℕ) : Type 0 where
  pub room : 16 ≤ length set₀
  pub made : Filled (set_byte (told w phys permissions phy source)) 16 set₀ set k
  pub kept : 8 * k < phy_count phys → Kept w phys permissions phy source (8 * k) slots next

-- what stands behind the sixteen bytes is as it was
behind : (entry set₀ : List ℕ) → set₀ ≡ empty_set ++ drop 16 entry → drop 16 set₀ ≡ drop 16 entry
unfolding empty_set
behind entry set₀ e = ap (drop 16) e ∙ drop_at (replicate 16 0) (drop 16 entry) 16 refl

-- and the sixteen bytes are zero
empty : (entry set₀ : List ℕ) → set₀ ≡ empty_set ++ drop 16 entry → (j : ℕ) → j < 16 → get_or set₀ j 0 ≡ 0
unfolding empty_set
empty entry set₀ e j h =
    ap (λ (s : List ℕ). get_or s j 0) e ∙ get_or-append (replicate 16 0) (drop 16 entry) 0 j h ∙ get_or-zeros 16 j

module _ (w : ℕ) (phys permissions : List ℕ) (phy source : ℕ) where
  pub tell_start : (entry set₀ : List ℕ) → 16 ≤ length entry → set₀ ≡ empty_set ++ drop 16 entry
      → Telling w phys permissions phy source set₀ set₀ (replicate 256 0) (replicate 129 0) 0
  unfolding empty_set
  tell_start entry set₀ l e =
      let n : length set₀ ≡ length entry = ap length e ∙ length-append (replicate 16 0) (drop 16 entry) ∙ omega (arith, length-drop 16 entry) in
      record {
        room = omega arith;
        made = fill_start (set_byte (told w phys permissions phy source)) 16 set₀;
        kept = λ h. kept-start w phys permissions phy source (replicate 256 0) (replicate 129 0) refl refl (λ h u. get_or-zeros 256 h) (get_or-zeros 129);
      }

  module _ (set₀ s slots next : List ℕ) (k : ℕ) (t : Telling w phys permissions phy source set₀ s slots next k) where
    pub tell_again : (slots₁ next₁ : List ℕ) (b : ℕ) → length phys ≤ 128 * phy_record → 8 * k < phy_count phys
        → ByteTold w phys permissions phy source k slots₁ next₁ b → Telling w phys permissions phy source set₀ (set s k b) slots₁ next₁ (k + 1)
    tell_again slots₁ next₁ b most h j = record {
      room = t.room;
      made = fill_again (set_byte (told w phys permissions phy source)) 16 set₀ s k b t.room (omega arith) j.answer t.made;
      kept = λ l. let p : 8 * k + 8 ≡ 8 * (k + 1) = omega arith in rw p at (j.kept (omega arith));
    }

    pub tell_end : (entry : List ℕ) → length phys % phy_record ≡ 0 → phy_count phys ≤ 8 * k → set₀ ≡ empty_set ++ drop 16 entry
        → s ≡ told_set w phys permissions phy source ++ drop 16 entry
    unfolding told_set set_of
    tell_end entry z h e =
        fill_end (set_byte (told w phys permissions phy source)) 16 set₀ s 16 (omega arith) whole
        ∙ ap (λ (r : List ℕ). tab (set_byte (told w phys permissions phy source)) 0 16 ++ r) (behind entry set₀ e)
      where
        none : (j : ℕ) → k ≤ j → j < 16 → get_or set₀ j 0 ≡ set_byte (told w phys permissions phy source) j
        none j a b = empty entry set₀ e j b ∙ sym (byte_past (told w phys permissions phy source) j (λ m l. sym (told_out w phys permissions phy source m z (omega arith))))

        whole : Filled (set_byte (told w phys permissions phy source)) 16 set₀ s 16
        whole =
            fill_rest (set_byte (told w phys permissions phy source)) 16 set₀ s k (16 - k) t.room (omega (arith, t.made.within)) none t.made
