-- Function results by their bytes: each has its own, and only what is accepted has 00h.
-- Assumes nothing.
use mathlib.Core.Path.{◌≡◌, refl, sym, ap, ◌∙◌}
use mathlib.Core.Bool.{cond}
use Prim.Native.Nat.{ℕ}
use native.Mathlib.Omega.{arith}
use lib.Dec.{eqb}
use Rattle.std.proofs.Common.{Result, Err}
use Rattle.std.specs.Prelude.{⊤}
use Rattle.requests.specs.declared.FunctionResult.{FunctionResult}
use Rattle.requests.specs.declared.FunctionResult.TheVariants.{Accepted, UnknownFunction, Failed, InvalidLength, NoSuchPhy, NoSuchIndex, Vacant}
use Rattle.requests.specs.Results.{number}

pub number_down : (e : FunctionResult) → (◌≡◌ {A = Result ⊤ FunctionResult} (Err e) (Err Accepted) → ⊥) → number e ≡ 0 → ⊥
number_down Accepted h z = h refl
number_down UnknownFunction h z = omega arith
number_down Failed h z = omega arith
number_down InvalidLength h z = omega arith
number_down NoSuchPhy h z = omega arith
number_down NoSuchIndex h z = omega arith
number_down Vacant h z = omega arith

-- the function result of a byte
numbered : ℕ → FunctionResult
numbered n =
    cond (eqb n 0x00) Accepted (cond (eqb n 0x01) UnknownFunction (cond (eqb n 0x02) Failed (cond (eqb n 0x03) InvalidLength
    (cond (eqb n 0x10) NoSuchPhy (cond (eqb n 0x11) NoSuchIndex Vacant)))))

numbered_back : (a : FunctionResult) → numbered (number a) ≡ a
unfolding numbered
numbered_back Accepted = refl
numbered_back UnknownFunction = refl
numbered_back Failed = refl
numbered_back InvalidLength = refl
numbered_back NoSuchPhy = refl
numbered_back NoSuchIndex = refl
numbered_back Vacant = refl

pub one_number : (a b : FunctionResult) → number a ≡ number b → a ≡ b
one_number a b e = sym (numbered_back a) ∙ ap numbered e ∙ numbered_back b
