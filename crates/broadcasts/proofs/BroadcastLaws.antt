-- Broadcasts: what is known where nothing is refused; the count; the frame; the calls' ends.
-- Assumes nothing.
use mathlib.Core.Path.{◌≡◌, refl, sym, ap, ap₂, ◌∙◌}
use mathlib.Core.Bool.{Bool, true, false, not, ◌&&◌, and-false}
use mathlib.Core.List.{List, [], ◌∷◌, ◌++◌}
use Prim.Native.Nat.{ℕ, zero, suc, ◌+◌, ◌-◌, ◌*◌, ◌%◌, ◌≤◌, ◌<◌}
use native.Mathlib.Nat.{zero-add}
use native.Mathlib.Decide.{ℕ_discrete}
use native.Mathlib.Omega.{arith}
use borrow.Author.Tests.{leb-true, eq-eqb, ne_eqb, not-true, not-false}
use lib.Dec.{leb}
use lib.ListN.{length, set, drop, replicate}
use Rattle.wire.specs.Bits.{tab}
use Rattle.wire.specs.declared.ZoneGroup.{ZoneGroup}
use Rattle.std.proofs.Common.{Option, Some, None, Result, Ok, Err}
use Rattle.std.specs.Prelude.{IsErrAnd}
use Rattle.std.specs.Option.{ok_or}
use Rattle.tables.specs.Numbers.{number}
use Rattle.tables.specs.declared.refusal.Refusal.{Refusal}
use Rattle.tables.specs.declared.refusal.Refusal.TheVariants.{WrongField, NotParticipating}
use Rattle.wire.specs.Groups.{group_of, outside_group}
use Rattle.wire.specs.PhySet.{tally, phys_in}
use Rattle.wire.proofs.GroupLaws.{outside_number, taken_group, taken_none}
use Rattle.wire.proofs.Sets.{member-set_of, count_front, tally_le, tally-add}
use Rattle.permit.specs.Permission.{permissions_sized, Width}
use Rattle.permit.proofs.Laws.{table_sized}
use Rattle.tables.specs.Refusals.{Check, refuse, below, first_refusal, Clear}
use Rattle.tables.specs.Phys.{phy_record, phy_count, participating}
use Rattle.tables.specs.Arrival.{arrival_checks}
use Rattle.tables.proofs.RefusalLaws.{none, here, next, first, agrees_not, front, back}
use Rattle.tables.proofs.ArrivalLaws.{both, Arrived, arrival_clear}
use Rattle.tables.specs.Outcome.{answer, Out, out}
use Rattle.tables.proofs.OutcomeLaws.{refuses, gives}
use Rattle.tables.proofs.AnswerLaws.{number_above}
use Rattle.broadcasts.specs.Inner.{Lent, Announced}
use Rattle.told_set.proofs.ToldLaws.{told_out, told_self, length-told}
use Rattle.told_set.specs.ToldSet.{told_set}
use Rattle.broadcasts.specs.Broadcasts.{told_as, frame_byte, frame_of, announced, room_for, primitive_checks, type_of, typed_length, type_checks, frame_source, frame_number, carried_checks, broadcast_out}

-- ---- a frame that is not refused has a type, and so four bytes at least
pub typed_long : (arrived : List ℕ) → length arrived ≡ typed_length arrived → 2 ≤ type_of arrived → type_of arrived ≤ 3 → 4 ≤ length arrived
unfolding typed_length
typed_long arrived e l h = go (ℕ_discrete (type_of arrived) 2)
  where
    go : Dec (type_of arrived ≡ 2) → 4 ≤ length arrived
    go (yes p) = let q : length arrived ≡ 28 = e ∙ rw (eq-eqb (type_of arrived) 2 p) in omega arith
    go (no n) =
        let p : type_of arrived ≡ 3 = omega arith in
        let q : length arrived ≡ 4 = e ∙ rw (ne_eqb (type_of arrived) 2 n, eq-eqb (type_of arrived) 3 p) in omega arith

-- the rows of a frame up to its type's
abbrev frame_front : ℕ → List ℕ → List ℕ → ℕ → List ℕ → Bool → List Check
frame_front w phys permissions phy arrived room = arrival_checks phys phy (permissions_sized w permissions) room true ++ type_checks arrived

-- ---- where nothing is refused
module _ (w : ℕ) (phys permissions : List ℕ) (phy : ℕ) (set frame : List ℕ) where
  lent : Width w → Arrived phys phy (permissions_sized w permissions) (room_for set frame) true → Lent w phys permissions phy set frame
  lent wide a =
      let room = both (leb 16 (length set)) (leb 28 (length frame)) a.roomy in
      record {
        shelf = record {
          records = a.records;
          most = a.most;
          table = table_sized w permissions wide a.sized;
          there = a.there;
          up = a.state;
        };
        set_room = leb-true _ _ room.0;
        frame_room = leb-true _ _ room.1;
      }

  module _ (number : ℕ) (e : 0 ≡ first_refusal (primitive_checks w phys permissions phy number (room_for set frame))) where
    primitive_clear : Arrived phys phy (permissions_sized w permissions) (room_for set frame) true × Clear (refuse 5 (below 7 number) ∷ [])
    primitive_clear = arrival_clear phys phy (permissions_sized w permissions) (room_for set frame) true _ 0 e refl tt

    pub primitive_lent : Width w → Lent w phys permissions phy set frame
    primitive_lent wide = lent wide primitive_clear.0

    pub primitive_small : number < 8
    primitive_small = let k = primitive_clear.1 in omega arith

  module _ (arrived : List ℕ) (e : 0 ≡ first_refusal (frame_front w phys permissions phy arrived (room_for set frame))) where
    frame_clear : Arrived phys phy (permissions_sized w permissions) (room_for set frame) true × (4 ≤ length arrived)
    frame_clear =
        let k = arrival_clear phys phy (permissions_sized w permissions) (room_for set frame) true _ 0 e refl tt in
        (k.0, typed_long arrived k.1.1.0 k.1.1.1.0 k.1.1.1.1.0)

    pub frame_lent : Width w → Lent w phys permissions phy set frame
    frame_lent wide = lent wide frame_clear.0

    pub frame_long : 4 ≤ length arrived
    frame_long = frame_clear.1

-- ---- the count
-- no phy from n on, and not p, is counted
none_counted : (f : ℕ → Bool) (i n : ℕ) → ((k : ℕ) → i ≤ k → k < i + n → f k ≡ false) → tally f i n ≡ 0
unfolding tally
none_counted f i zero h = refl
none_counted f i (suc n) h =
    rw (h i (omega arith) (omega arith)) (omega (arith, none_counted f (suc i) n (λ k l u. h k (omega arith) (omega arith))))

-- of n numbers below m, with one of them left out, at most n - 1
tally_most : (f : ℕ → Bool) (p n m : ℕ) → p < n → n ≤ m → f p ≡ false → ((k : ℕ) → n ≤ k → k < m → f k ≡ false) → tally f 0 m ≤ n - 1
tally_most f p n m h l self gone =
    let one : tally f p 1 ≡ 0 = none_counted f p 1 (λ k a b. ap f (omega arith) ∙ self) in
    let past : tally f n (m - n) ≡ 0 = none_counted f n (m - n) (λ k a b. gone k a (omega arith)) in
    let a : m ≡ p + (1 + ((n - p - 1) + (m - n))) = omega arith in
    let b : p + 1 + (n - p - 1) ≡ n = omega arith in
    let t : tally f 0 m ≡ tally f 0 p + (tally f p 1 + (tally f (p + 1) (n - p - 1) + tally f n (m - n))) =
    ap (tally f 0) a
    ∙ tally-add f 0 p (1 + ((n - p - 1) + (m - n)))
    ∙ ap (λ (x : ℕ). tally f 0 p + x)
    (ap (λ (k : ℕ). tally f k (1 + ((n - p - 1) + (m - n)))) (zero-add p)
    ∙ tally-add f p 1 ((n - p - 1) + (m - n))
    ∙ ap (λ (x : ℕ). tally f p 1 + x) (tally-add f (p + 1) (n - p - 1) (m - n) ∙ ap (λ (k : ℕ). tally f (p + 1) (n - p - 1) + tally f k (m - n)) b)) in
    omega (arith, t, one, past, tally_le f 0 p, tally_le f (p + 1) (n - p - 1))

-- "so at most the number of phys less one"
pub count_most : (w : ℕ) (phys permissions : List ℕ) (phy source : ℕ) → length phys % phy_record ≡ 0 → phy_count phys ≤ 128 → phy < phy_count phys
    → phys_in (told_set w phys permissions phy source) ≤ phy_count phys - 1
unfolding phys_in told_set
count_most w phys permissions phy source e m h =
    tally_most _ phy (phy_count phys) 128 h m
    (member-set_of _ phy (omega arith) ∙ told_self w phys permissions phy source)
    (λ k l u. member-set_of _ k u ∙ sym (told_out w phys permissions phy source k e l))

-- ---- the frame: zeros, and then two bytes
pub frame_made : (number source : ℕ) (s₀ s : List ℕ) → s ≡ replicate 28 0 ++ drop 28 s₀
    → set (set s 0 (number * 16 + 2)) 3 source ≡ frame_of number source ++ drop 28 s₀
unfolding frame_of frame_byte tab
frame_made number source s₀ s e = ap (λ (l : List ℕ). set (set l 0 (number * 16 + 2)) 3 source) e

-- ---- the calls' ends
pub announce_refuses : (w : ℕ) (phys permissions : List ℕ) (phy source primitive : ℕ) (set frame : List ℕ) (r : Result ℕ Refusal) (e : Refusal) (n : ℕ)
    → IsErrAnd r (λ y. y ≡ e) → number e ≡ n → out (told_as r) (set ∷ frame ∷ []) ≡ announced w n phys permissions phy source primitive set frame
announce_refuses w phys permissions phy source primitive set frame r e n h q = refuses (λ x. x ∷ []) _ r e n _ _ h q

module _ (w : ℕ) (phys permissions : List ℕ) (phy source number : ℕ) (set frame : List ℕ) where
  pub announce_done : (g count : ℕ) (set₁ frame₁ : List ℕ) → source < 128 → g ≡ group_of source → count ≡ phys_in set₁
      → set₁ ≡ told_set w phys permissions phy g ++ drop 16 set → frame₁ ≡ frame_of number g ++ drop 28 frame
      → Announced w phys permissions phy source number set frame count set₁ frame₁
  announce_done g count set₁ frame₁ h eg e es ef =
      let q : g ≡ source = omega arith in
      rw (← q)
      (record { counted = e ∙ ap phys_in es ∙ count_front _ (drop 16 set) (length-told w phys permissions phy g); told = es; framed = ef })

  pub announce_gives : (n count : ℕ) (set₁ frame₁ : List ℕ) → 0 ≡ n → Announced w phys permissions phy source number set frame count set₁ frame₁
      → out (told_as (Ok count)) (set₁ ∷ frame₁ ∷ []) ≡ announced w n phys permissions phy source number set frame
  announce_gives n count set₁ frame₁ e a =
      gives _ _ n _ _ _ e (ap (λ (x : ℕ). answer (x ∷ [])) a.counted) (ap₂ (λ (x y : List ℕ). x ∷ y ∷ []) a.told a.framed)

  -- the source as a callee answered it
  pub announce_from : (s count : ℕ) (set₁ frame₁ : List ℕ) → s ≡ source → Announced w phys permissions phy s number set frame count set₁ frame₁
      → Announced w phys permissions phy source number set frame count set₁ frame₁
  announce_from s count set₁ frame₁ e a = rw (sym e) a

-- ---- of two that are asked together
first_off : (a b : Bool) → a ≡ false → (a && b) ≡ false
first_off a b e = rw e

second_off : (a b : Bool) → b ≡ false → (a && b) ≡ false
second_off a b e = rw e (and-false a)

both_on : (a b : Bool) → a ≡ true → b ≡ true → (a && b) ≡ true
both_on a b e f = rw (e, f)

-- ---- `relay_frame`, by its ways out: p is whether the phy is participating, o what byte 3 names
module _ (w : ℕ) (phys permissions : List ℕ) (phy : ℕ) (arrived set frame : List ℕ) (p : Bool) (ep : p ≡ participating phys phy) where
  abbrev relayed : Out
  relayed = announced w (first_refusal (carried_checks phys phy arrived)) phys permissions phy (frame_source arrived) (frame_number arrived) set frame

  -- on a phy that is not participating, whatever byte 3 is
  pub frame_alone : not p ≡ true → out (told_as (Err NotParticipating)) (set ∷ frame ∷ []) ≡ relayed
  frame_alone h =
      announce_refuses w phys permissions phy (frame_source arrived) (frame_number arrived) set frame (Err NotParticipating) NotParticipating _ refl (first (next (first_off _ _ (sym ep ∙ not-true p h)) (here (agrees_not ep h))))

  module _ (h : not p ≡ false) (o : Option ZoneGroup) (eo : o ≡ outside_group (frame_source arrived)) where
    -- where byte 3 is no group, `ok_or` makes the refusal e, which a `?` hands on in r
    pub frame_none : (r : Result ℕ Refusal) (e : Refusal) → ◌≡◌ {A = Result ZoneGroup Refusal} (Err e) (ok_or o WrongField) → o ≡ None → IsErrAnd r (λ y. y ≡ e)
        → out (told_as r) (set ∷ frame ∷ []) ≡ relayed
    frame_none r e q s k =
        let made : ◌≡◌ {A = Result ZoneGroup Refusal} (Err e) (Err WrongField) = rw s at q in
        let same : WrongField ≡ e = cc made in
        announce_refuses w phys permissions phy (frame_source arrived) (frame_number arrived) set frame r e _ k
        (ap number (sym same) ∙ first (here (both_on _ _ (sym ep ∙ not-false p h) (taken_none eo s))))

    pub frame_from : (g : ZoneGroup) (count : ℕ) (set₁ frame₁ : List ℕ) → o ≡ Some g
        → Announced w phys permissions phy g.0 (frame_number arrived) set frame count set₁ frame₁
        → out (told_as (Ok count)) (set₁ ∷ frame₁ ∷ []) ≡ relayed
    frame_from g count set₁ frame₁ s a =
        announce_gives w phys permissions phy (frame_source arrived) (frame_number arrived) set frame _ count set₁ frame₁
        (first (next (second_off (participating phys phy) _ (taken_group eo s)) (next (agrees_not ep h) none)))
        (announce_from w phys permissions phy (frame_source arrived) (frame_number arrived) set frame g.0 count set₁ frame₁ (outside_number _ g (sym eo ∙ s)).0 a)

-- ---- the frame's call, by the rows up to the type's
module _ (w : ℕ) (phys permissions : List ℕ) (phy : ℕ) (arrived set frame : List ℕ) where
  -- they give the refusal e, which a `?` hands on in r
  pub frame_refused : (r : Result ℕ Refusal) (e : Refusal) → IsErrAnd r (λ y. y ≡ e) → number e ≡ first_refusal (frame_front w phys permissions phy arrived (room_for set frame))
      → out (told_as r) (set ∷ frame ∷ []) ≡ broadcast_out w phys permissions phy arrived set frame
  unfolding arrival_checks
  frame_refused r e h q =
      announce_refuses w phys permissions phy (frame_source arrived) (frame_number arrived) set frame r e _ h (front (frame_front w phys permissions phy arrived (room_for set frame)) _ (number e) q (number_above e))

  -- they give none
  pub frame_gives : 0 ≡ first_refusal (frame_front w phys permissions phy arrived (room_for set frame)) → (x : Out)
      → x ≡ announced w (first_refusal (carried_checks phys phy arrived)) phys permissions phy (frame_source arrived) (frame_number arrived) set frame
      → x ≡ broadcast_out w phys permissions phy arrived set frame
  unfolding arrival_checks
  frame_gives e x q =
      q
      ∙ ap (λ (n : ℕ). announced w n phys permissions phy (frame_source arrived) (frame_number arrived) set frame)
      (back (frame_front w phys permissions phy arrived (room_for set frame)) (carried_checks phys phy arrived) 0 _ tt e refl refl)

-- a group from outside is below 128
pub group-small : (g : ZoneGroup) (o : Option ZoneGroup) (b : ℕ) → o ≡ outside_group b → o ≡ Some g → g.0 < 128
group-small g o b e s = let k = outside_number b g (sym e ∙ s) in omega arith
