-- Refusals by their numbers: each has its own, above 0, so answers with the same numbers are one.
-- Assumes nothing.
use mathlib.Core.Path.{◌≡◌, refl, sym, ap, ◌∙◌}
use mathlib.Core.Bool.{cond}
use mathlib.Core.List.{List}
use Prim.Native.Nat.{ℕ}
use native.Mathlib.Omega.{arith}
use lib.Dec.{eqb}
use Rattle.std.proofs.Common.{Result, Ok, Err}
use Rattle.tables.specs.Numbers.{number, answered_by, answered}
use Rattle.tables.specs.declared.refusal.Refusal.{Refusal}
use Rattle.tables.specs.declared.refusal.Refusal.TheVariants.{WrongSize, NoSuchPhy, NoRoom, WrongLength, WrongField, NotParticipating, WrongState, TooLong, TooShort, IsVersion2, VersionUnknown, LengthsDisagree, OffsetDisagrees, PhyCountDisagrees, BadPair, BadPhy, BadZone, PermissionsNotAsDescribed, PhysNotAsDescribed}

-- the refusal of a number
numbered : ℕ → Refusal
numbered n =
    cond (eqb n 1) WrongSize (cond (eqb n 2) NoSuchPhy (cond (eqb n 3) NoRoom (cond (eqb n 4) WrongLength (cond (eqb n 5) WrongField
    (cond (eqb n 6) NotParticipating (cond (eqb n 7) WrongState (cond (eqb n 8) TooLong (cond (eqb n 31) TooShort (cond (eqb n 32) IsVersion2
    (cond (eqb n 33) VersionUnknown (cond (eqb n 34) LengthsDisagree (cond (eqb n 35) OffsetDisagrees (cond (eqb n 36) PhyCountDisagrees
    (cond (eqb n 37) BadPair (cond (eqb n 38) BadPhy (cond (eqb n 39) BadZone (cond (eqb n 40) PermissionsNotAsDescribed PhysNotAsDescribed)))))))))))))))))

numbered_back : (a : Refusal) → numbered (number a) ≡ a
unfolding numbered
numbered_back WrongSize = refl
numbered_back NoSuchPhy = refl
numbered_back NoRoom = refl
numbered_back WrongLength = refl
numbered_back WrongField = refl
numbered_back NotParticipating = refl
numbered_back WrongState = refl
numbered_back TooLong = refl
numbered_back TooShort = refl
numbered_back IsVersion2 = refl
numbered_back VersionUnknown = refl
numbered_back LengthsDisagree = refl
numbered_back OffsetDisagrees = refl
numbered_back PhyCountDisagrees = refl
numbered_back BadPair = refl
numbered_back BadPhy = refl
numbered_back BadZone = refl
numbered_back PermissionsNotAsDescribed = refl
numbered_back PhysNotAsDescribed = refl

pub one_number : (a b : Refusal) → number a ≡ number b → a ≡ b
one_number a b e = sym (numbered_back a) ∙ ap numbered e ∙ numbered_back b

pub number_above : (e : Refusal) → number e ≡ 0 → ⊥
number_above WrongSize h = omega arith
number_above NoSuchPhy h = omega arith
number_above NoRoom h = omega arith
number_above WrongLength h = omega arith
number_above WrongField h = omega arith
number_above NotParticipating h = omega arith
number_above WrongState h = omega arith
number_above TooLong h = omega arith
number_above TooShort h = omega arith
number_above IsVersion2 h = omega arith
number_above VersionUnknown h = omega arith
number_above LengthsDisagree h = omega arith
number_above OffsetDisagrees h = omega arith
number_above PhyCountDisagrees h = omega arith
number_above BadPair h = omega arith
number_above BadPhy h = omega arith
number_above BadZone h = omega arith
number_above PermissionsNotAsDescribed h = omega arith
number_above PhysNotAsDescribed h = omega arith

-- two answers with the same numbers are one, where no two values have the same numbers
module _ {A E : Type 0} (n : E → ℕ) (values : A → List ℕ) (one_error : (a b : E) → n a ≡ n b → a ≡ b) (one_value : (a b : A) → values a ≡ values b → a ≡ b) where
  pub one_answered_by : (r₁ r₂ : Result A E) → answered_by n values r₁ ≡ answered_by n values r₂ → r₁ ≡ r₂
  one_answered_by (Ok a) (Ok b) e = let q : values a ≡ values b = cc in rw (one_value a b q)
  one_answered_by (Ok a) (Err b) e = absurd (let z : ◌≡◌ {A = ℕ} 0 1 = cc in omega arith)
  one_answered_by (Err a) (Ok b) e = absurd (let z : ◌≡◌ {A = ℕ} 0 1 = cc in omega arith)
  one_answered_by (Err a) (Err b) e = let q : n a ≡ n b = cc in rw (one_error a b q)

pub one_answered : {A : Type 0} (values : A → List ℕ) → ((a b : A) → values a ≡ values b → a ≡ b) → (r₁ r₂ : Result A Refusal)
    → answered values r₁ ≡ answered values r₂ → r₁ ≡ r₂
one_answered values h = one_answered_by number values one_number h
