-- Refusals: by which row the checks end, and what is known where none holds.
-- Assumes nothing.
use mathlib.Core.Path.{◌≡◌, refl, sym, ◌∙◌}
use mathlib.Core.Bool.{Bool, true, false, cond, not}
use mathlib.Core.List.{List, [], ◌∷◌, ◌++◌}
use Prim.Native.Nat.{ℕ, zero, suc, ◌≤◌, ◌<◌}
use native.Mathlib.Omega.{arith}
use lib.Dec.{eqb}
use borrow.Author.Tests.{ltb-false, leb-false, eqb-true, eqb-false, lt-ltb, le-ltb, le-leb, lt-leb, eq-eqb, ne_eqb, not-false}
use Rattle.tables.specs.Refusals.{Test, below, at_most, same, differ, off, on, holds, Check, refuse, first_refusal, Fails, Clear}

-- that a test holds, as a plain fact
abbrev pub Holds : Test → Type 0
Holds (below a b) = a < b
Holds (at_most a b) = a ≤ b
Holds (same a b) = a ≡ b
Holds (differ a b) = a ≡ b → ⊥
Holds (off v) = not v ≡ true
Holds (on v) = v ≡ true

holding : (t : Test) → Holds t → holds t ≡ true
holding (below a b) h = lt-ltb a b h
holding (at_most a b) h = le-leb a b h
holding (same a b) h = eq-eqb a b h
holding (differ a b) h = rw (ne_eqb a b h)
holding (off v) h = h
holding (on v) h = h

failing : (t : Test) → Fails t → holds t ≡ false
failing (below a b) h = le-ltb a b h
failing (at_most a b) h = lt-leb a b h
failing (same a b) h = ne_eqb a b h
failing (differ a b) h = rw (eq-eqb a b h)
failing (off v) h = h
failing (on v) h = h

failed : (t : Test) → holds t ≡ false → Fails t
failed (below a b) h = ltb-false a b h
failed (at_most a b) h = leb-false a b h
failed (same a b) h = eqb-false a b h
failed (differ a b) h = eqb-true a b (not-false (eqb a b) h)
failed (off v) h = h
failed (on v) h = h

-- ---- towards the number: by which row the checks end
pub data First : List Check → ℕ → Type 0 where
  none : First [] 0
  here : {n : ℕ} {t : Test} {cs : List Check} → Holds t → First (refuse n t ∷ cs) n
  next : {n m : ℕ} {t : Test} {cs : List Check} → Fails t → First cs m → First (refuse n t ∷ cs) m

pub first : {cs : List Check} {n : ℕ} → First cs n → n ≡ first_refusal cs
unfolding first_refusal
first none = refl
first (here {t = t} h) = rw (holding t h)
first (next {t = t} h r) = rw (failing t h) (first r)

-- a row whose test fails is passed over
pub skipped : (n : ℕ) (t : Test) (cs : List Check) → Fails t → first_refusal (refuse n t ∷ cs) ≡ first_refusal cs
unfolding first_refusal
skipped n t cs h = rw (failing t h)

-- a callee's result x is v, and x, or its negation, was tested
pub agrees : {x v w : Bool} → x ≡ v → x ≡ w → v ≡ w
agrees e h = sym e ∙ h

pub agrees_not : {x v w : Bool} → x ≡ v → not x ≡ w → not v ≡ w
agrees_not e h = rw (← e) h

-- a callee's number x is v, and x was held against a
pub held_same : {a x v : ℕ} → x ≡ v → a ≡ x → a ≡ v
held_same e h = h ∙ e

pub held_differ : {a x v : ℕ} → x ≡ v → (a ≡ x → ⊥) → a ≡ v → ⊥
held_differ e h q = h (q ∙ sym e)

pub held_above : {a x v : ℕ} → x ≡ v → a < x → a < v
held_above e h = rw (← e) h

pub held-at_most : {a x v : ℕ} → x ≡ v → x ≤ a → v ≤ a
held-at_most e h = rw (← e) h

pub held_at_least : {a x v : ℕ} → x ≡ v → a ≤ x → a ≤ v
held_at_least e h = rw (← e) h

pub held_below : {a x v : ℕ} → x ≡ v → x < a → v < a
held_below e h = rw (← e) h

-- the answer to each return of a function that computes the number: `search rows depth 16`
pub ruleset rows = (first, here, next, none, agrees, agrees_not)

-- ---- from the number 0: every row's test fails
abbrev pub Numbered : List Check → Type 0
Numbered [] = Unit
Numbered (refuse zero t ∷ cs) = ⊥
Numbered (refuse (suc n) t ∷ cs) = Numbered cs

passed : (t : Bool) (n m : ℕ) → cond t (suc n) m ≡ 0 → (t ≡ false) × (m ≡ 0)
passed true n m e = absurd (omega arith)
passed false n m e = (refl, e)

all_clear : (cs : List Check) → Numbered cs → first_refusal cs ≡ 0 → Clear cs
unfolding first_refusal
all_clear [] k e = tt
all_clear (refuse zero t ∷ cs) k e = absurd k
all_clear (refuse (suc n) t ∷ cs) k e =
    let p = passed (holds t) n (first_refusal cs) e in (failed t p.0, all_clear cs k p.1)

-- as a caller has it: r is the number that was answered
pub clear : (cs : List Check) (r : ℕ) → r ≡ first_refusal cs → r ≡ 0 → Numbered cs → Clear cs
clear cs r e z k = all_clear cs k (sym e ∙ z)

-- ---- two lists of rows that give one number, row by row: what is behind a row counts only where its test fails
pub row_same : (n : ℕ) (t s : Test) (cs ds : List Check) → holds t ≡ holds s → (Fails t → first_refusal cs ≡ first_refusal ds)
    → first_refusal (refuse n t ∷ cs) ≡ first_refusal (refuse n s ∷ ds)
unfolding first_refusal
row_same n t s cs ds e h = rw (← e) (go (holds t) refl)
  where
    go : (b : Bool) → holds t ≡ b → cond b n (first_refusal cs) ≡ cond b n (first_refusal ds)
    go true q = refl
    go false q = h (failed t q)

-- ---- rows that several calls check first, and then a call's own
pub front : (xs ys : List Check) (r : ℕ) → r ≡ first_refusal xs → (r ≡ 0 → ⊥) → r ≡ first_refusal (xs ++ ys)
unfolding first_refusal
front [] ys r e h = absurd (h e)
front (refuse n t ∷ xs) ys r e h = go (holds t) (front xs ys r) e
  where
    go : (b : Bool) → (r ≡ first_refusal xs → (r ≡ 0 → ⊥) → r ≡ first_refusal (xs ++ ys)) → r ≡ cond b n (first_refusal xs) → r ≡ cond b n (first_refusal (xs ++ ys))
    go true rest q = q
    go false rest q = rest q h

pub back : (xs ys : List Check) (r n : ℕ) → Numbered xs → r ≡ first_refusal xs → r ≡ 0 → n ≡ first_refusal ys → n ≡ first_refusal (xs ++ ys)
unfolding first_refusal
back [] ys r n k e z en = en
back (refuse zero t ∷ xs) ys r n k e z en = absurd k
back (refuse (suc m) t ∷ xs) ys r n k e z en =
    let p = passed (holds t) m (first_refusal xs) (sym e ∙ z) in
    rw p.0 (back xs ys 0 n k (sym p.1) refl en)

-- where rows and those behind them give 0, each of the two does
pub apart : (xs ys : List Check) → Numbered xs → first_refusal (xs ++ ys) ≡ 0 → (first_refusal xs ≡ 0) × (first_refusal ys ≡ 0)
unfolding first_refusal
apart [] ys k e = (refl, e)
apart (refuse zero t ∷ xs) ys k e = absurd k
apart (refuse (suc n) t ∷ xs) ys k e =
    let p = passed (holds t) n (first_refusal (xs ++ ys)) e in
    let q = apart xs ys k p.1 in
    (rw p.0 q.0, q.1)
