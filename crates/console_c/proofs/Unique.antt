-- Each contract leaves one answer, in all its fields, and one content of its buffer.
-- Assumes nothing.
use mathlib.Core.Path.{◌≡◌, sym, ap, ◌∙◌}
use mathlib.Core.List.{List}
use Prim.Native.Nat.{ℕ}
use lib.ListN.{get_or}
use Rattle.boundary.specs.C.{Given, given}
use Rattle.console_c.specs.declared.BuiltC.{BuiltC}
use Rattle.console_c.specs.declared.HeardC.{HeardC}
use Rattle.console_c.specs.ConsoleC.{built_fields, heard_fields}

abbrev built_of : List ℕ → BuiltC
built_of fs = record { refusal = get_or fs 0 0; length = get_or fs 1 0 }

abbrev heard_of : List ℕ → HeardC
heard_of fs = record { refusal = get_or fs 0 0; function = get_or fs 1 0; result = get_or fs 2 0; start = get_or fs 3 0; count = get_or fs 4 0 }

module _ (o : Given) (bs cs : List (List ℕ)) where
  one : (fs gs : List ℕ) → given fs bs ≡ o → given gs cs ≡ o → (fs ≡ gs) × (bs ≡ cs)
  one fs gs p q = let e : given fs bs ≡ given gs cs = p ∙ sym q in (cc, cc)

  pub built_unique : (r s : BuiltC) → given (built_fields r) bs ≡ o → given (built_fields s) cs ≡ o → (r ≡ s) × (bs ≡ cs)
  built_unique r s p q = let e = one _ _ p q in (ap built_of e.0, e.1)

  pub heard_unique : (r s : HeardC) → given (heard_fields r) bs ≡ o → given (heard_fields s) cs ≡ o → (r ≡ s) × (bs ≡ cs)
  heard_unique r s p q = let e = one _ _ p q in (ap heard_of e.0, e.1)
