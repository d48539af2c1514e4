-- Each answer of an import has numbers of its own.
-- Assumes nothing.
use mathlib.Core.Path.{◌≡◌, refl}
use native.Mathlib.Omega.{arith}
use Rattle.std.proofs.Common.{Result}
use Rattle.tables.specs.declared.refusal.Refusal.{Refusal}
use Rattle.tables.proofs.AnswerLaws.{one_answered}
use Rattle.imports.specs.Causes.{number}
use Rattle.imports.specs.Import.{imported_values, imported_as}
use Rattle.imports.specs.declared.cause.Cause.{Cause}
use Rattle.imports.specs.declared.cause.Cause.TheVariants.{BadText, NoSuchGroup, NoRight}
use Rattle.imports.specs.declared.Imported.{Imported}
use Rattle.imports.specs.declared.Imported.TheVariants.{Stopped, Whole}

one_cause : (a b : Cause) → number a ≡ number b → a ≡ b
one_cause BadText BadText e = refl
one_cause BadText NoSuchGroup e = absurd (omega arith)
one_cause BadText NoRight e = absurd (omega arith)
one_cause NoSuchGroup BadText e = absurd (omega arith)
one_cause NoSuchGroup NoSuchGroup e = refl
one_cause NoSuchGroup NoRight e = absurd (omega arith)
one_cause NoRight BadText e = absurd (omega arith)
one_cause NoRight NoSuchGroup e = absurd (omega arith)
one_cause NoRight NoRight e = refl

one_import : (a b : Imported) → imported_values a ≡ imported_values b → a ≡ b
one_import (Stopped l c) (Stopped k d) e = let p : l ≡ k = cc in let q : number c ≡ number d = cc in rw (p, one_cause c d q)
one_import (Stopped l c) (Whole k) e = cc
one_import (Whole l) (Stopped k d) e = cc
one_import (Whole l) (Whole k) e = cc

-- two answers that give the same numbers are the same
pub one_answer : (r q : Result Imported Refusal) → imported_as r ≡ imported_as q → r ≡ q
one_answer = one_answered imported_values one_import
