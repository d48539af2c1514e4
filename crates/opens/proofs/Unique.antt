-- An answer is one in document 01's numbers.
-- Assumes nothing.
use mathlib.Core.Path.{◌≡◌, refl, sym, ap, ◌∙◌}
use mathlib.Core.Bool.{cond}
use mathlib.Core.List.{List}
use Prim.Native.Nat.{ℕ}
use lib.Dec.{eqb}
use lib.ListN.{get_or}
use Rattle.std.proofs.Common.{Result}
use Rattle.tables.specs.declared.refusal.Refusal.{Refusal}
use Rattle.tables.proofs.AnswerLaws.{one_answered}
use Rattle.opens.specs.declared.Opened.{Opened}
use Rattle.opens.specs.declared.Opened.TheVariants.{NoDestination, BadDestination, ZoneViolation, Forward}
use Rattle.opens.specs.Open.{values_of, opened_as}

-- the outcome out of its numbers again
abbrev back : List ℕ → Opened
back xs =
    cond (eqb (get_or xs 0 0) 1) NoDestination
    (cond (eqb (get_or xs 0 0) 2) BadDestination
    (cond (eqb (get_or xs 0 0) 3) ZoneViolation (Forward (record { 0 = get_or xs 1 0 }))))

back_of : (r : Opened) → back (values_of r) ≡ r
back_of NoDestination = refl
back_of BadDestination = refl
back_of ZoneViolation = refl
back_of (Forward p) = refl

one_value : (r s : Opened) → values_of r ≡ values_of s → r ≡ s
one_value r s e = sym (back_of r) ∙ ap back e ∙ back_of s

-- two answers with the same numbers are one
pub one_answer : (r s : Result Opened Refusal) → opened_as r ≡ opened_as s → r ≡ s
one_answer = one_answered values_of one_value
