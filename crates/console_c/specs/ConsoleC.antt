-- What C gets of the console: its outcomes in the fields of include/console.h; the quotes are of that header.
use Rattle.std.specs.Prelude.{Bool, not, List, [], ◌∷◌, ℕ, eqb}
use Rattle.console_c.specs.declared.BuiltC.{BuiltC}
use Rattle.console_c.specs.declared.HeardC.{HeardC}

abbrev pub built_fields : BuiltC → List ℕ
built_fields r = r.refusal ∷ r.length ∷ []

abbrev pub heard_fields : HeardC → List ℕ
heard_fields r = r.refusal ∷ r.function ∷ r.result ∷ r.start ∷ r.count ∷ []

-- "on, complete: any other value than 0 is yes"
abbrev pub yes : ℕ → Bool
yes n = not (eqb n 0)
