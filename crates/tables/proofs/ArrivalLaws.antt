-- What every call with an arriving phy checks first: how its own rows stand behind these, and what is known past them.
-- Assumes nothing.
use mathlib.Core.Path.{◌≡◌, refl, sym, ap, ◌∙◌}
use mathlib.Core.Bool.{Bool, true, false, not, ◌&&◌, beq}
use mathlib.Core.List.{List, ◌++◌}
use Prim.Native.Nat.{ℕ, ◌*◌, ◌%◌, ◌≤◌, ◌<◌}
use native.Mathlib.Omega.{arith}
use borrow.Author.Tests.{eqb-true, leb-true, not-false}
use lib.Dec.{eqb, leb}
use lib.ListN.{length}
use Rattle.std.proofs.Common.{Result}
use Rattle.std.specs.Prelude.{IsErrAnd, ⊤}
use Rattle.std.proofs.lemmas.Result.{err_from_is_err_and}
use Rattle.tables.specs.Numbers.{number, refused}
use Rattle.tables.specs.declared.refusal.Refusal.{Refusal}
use Rattle.tables.proofs.AnswerLaws.{number_above}
use Rattle.tables.specs.Refusals.{Check, first_refusal, Fails, Clear}
use Rattle.tables.specs.Phys.{phy_record, phy_count, phys_sized, ready}
use Rattle.tables.specs.Arrival.{unlike, arrival_checks}
use Rattle.tables.proofs.RefusalLaws.{Holds, Numbered, clear, front, back, apart}

-- ---- row 7, as the code asks it: x is whether the phy is ready, held against what the call awaits
pub never : {A : Type 0} → false ≡ true → A
never e = let z : ◌≡◌ {A = ℕ} 0 1 = cc in absurd (omega arith)

pub unlike-holds : (x a v : Bool) → x ≡ v → not (beq x a) ≡ true → Holds (unlike a v)
unlike-holds true true v e h = never h
unlike-holds false true v e h = rw (← e)
unlike-holds true false v e h = sym e
unlike-holds false false v e h = never h

pub unlike_fails : (x a v : Bool) → x ≡ v → not (beq x a) ≡ false → Fails (unlike a v)
unlike_fails true true v e h = rw (← e)
unlike_fails false true v e h = never (sym h)
unlike_fails true false v e h = never (sym h)
unlike_fails false false v e h = sym e

awaited_is : (a v : Bool) → Fails (unlike a v) → v ≡ a
awaited_is true v e = not-false v e
awaited_is false v e = e

-- ---- two things that are both so
pub both : (a b : Bool) → (a && b) ≡ true → (a ≡ true) × (b ≡ true)
both true b e = (refl, e)
both false b e = never e

-- ---- what is known where none of the shared rows holds
pub record Arrived (phys : List ℕ) (phy : ℕ) (sizes room awaited : Bool) : Type 0 where
  pub records : length phys % phy_record ≡ 0
  pub most : length phys ≤ 128 * phy_record
  pub sized : sizes ≡ true
  pub there : phy < phy_count phys
  pub roomy : room ≡ true
  pub state : ready phys phy ≡ awaited

pub phys_records : (phys : List ℕ) → phys_sized phys ≡ true → (length phys % phy_record ≡ 0) × (length phys ≤ 128 * phy_record)
unfolding phys_sized
phys_records phys e =
    let p = both (eqb (length phys % phy_record) 0 && leb phy_record (length phys)) (leb (length phys) (128 * phy_record)) e in
    (eqb-true _ _ (both (eqb (length phys % phy_record) 0) (leb phy_record (length phys)) p.0).0, leb-true _ _ p.1)

module _ (phys : List ℕ) (phy : ℕ) (sizes room awaited : Bool) where
  pub numbered : Numbered (arrival_checks phys phy sizes room awaited)
  unfolding arrival_checks
  numbered = tt

  pub arrived : (r : ℕ) → r ≡ first_refusal (arrival_checks phys phy sizes room awaited) → r ≡ 0 → Arrived phys phy sizes room awaited
  unfolding arrival_checks
  arrived r e z =
      let k = clear (arrival_checks phys phy sizes room awaited) r e z tt in
      let p = phys_records phys (not-false (phys_sized phys) (search k)) in
      record {
        records = p.0;
        most = p.1;
        sized = not-false sizes (search k);
        there = omega (arith, k);
        roomy = not-false room (search k);
        state = awaited_is awaited (ready phys phy) (search k);
      }

  pub arrival_there : (r : ℕ) → r ≡ first_refusal (arrival_checks phys phy sizes room awaited) → r ≡ 0 → phy < phy_count phys
  arrival_there r e z = (arrived r e z).there

  -- ---- a call's own rows stand behind these. As the code has it: s is what the call said of its other tables' sizes, r the number of the
  -- shared rows, n of the call's own
  module _ (s : Bool) (r : ℕ) (es : s ≡ sizes) (e : r ≡ first_refusal (arrival_checks phys phy s room awaited)) where
    shared : r ≡ first_refusal (arrival_checks phys phy sizes room awaited)
    shared = e ∙ ap (λ (x : Bool). first_refusal (arrival_checks phys phy x room awaited)) es

    pub arrival_front : (own : List Check) → (r ≡ 0 → ⊥) → r ≡ first_refusal (arrival_checks phys phy sizes room awaited ++ own)
    arrival_front own h = front _ own r shared h

  module _ (s : Bool) (es : s ≡ sizes) where
    -- they give the refusal e, which a `?` hands on in r
    pub arrival_refused : (own : List Check) (r : Result ⊤ Refusal) (e : Refusal) → IsErrAnd r (λ y. y ≡ e)
        → number e ≡ first_refusal (arrival_checks phys phy s room awaited) → refused r ≡ first_refusal (arrival_checks phys phy sizes room awaited ++ own)
    arrival_refused own r e h q =
        let p = err_from_is_err_and r h in rw (p.1, p.2) (arrival_front s (number e) es q own (number_above e))

    -- they give none, and the call's own give n
    pub arrival_back : (own : List Check) (n : ℕ) → 0 ≡ first_refusal (arrival_checks phys phy s room awaited) → n ≡ first_refusal own
        → n ≡ first_refusal (arrival_checks phys phy sizes room awaited ++ own)
    arrival_back own n e en = back _ own 0 n numbered (shared s 0 es e) refl en

  -- where neither gives a number, what the shared rows let pass is known, and so is what the call's own do
  pub arrival_clear : (own : List Check) (r : ℕ) → r ≡ first_refusal (arrival_checks phys phy sizes room awaited ++ own) → r ≡ 0
      → Numbered own → Arrived phys phy sizes room awaited × Clear own
  arrival_clear own r e z k =
      let p = apart _ own numbered (sym e ∙ z) in
      (arrived 0 (sym p.0) refl, clear own 0 (sym p.1) refl k)

  pub own_there : (own : List Check) (r : ℕ) → r ≡ first_refusal (arrival_checks phys phy sizes room awaited ++ own) → r ≡ 0 → phy < phy_count phys
  own_there own r e z = (arrived 0 (sym (apart _ own numbered (sym e ∙ z)).0) refl).there

-- two answers on sizes, as one
pub both_sized : {x y a b : Bool} → x ≡ a → y ≡ b → (x && y) ≡ (a && b)
both_sized p q = rw (p, q)
