-- "per event a kind (1 SMP, 2 OPEN, 3 primitive, 4 broadcast frame, 5 IDENTIFY, 6 leaving)"
use Rattle.std.specs.Prelude.{◌≡◌, ◌≢◌, ℕ, Result, MatchResult}
use Rattle.events.specs.declared.kind.Kind.{Kind}
use Rattle.events.specs.declared.kind.Kind.TheVariants.{Smp, Open, Primitive, Frame, Identify, Leaving}
use Rattle.events.specs.declared.kind.UnknownKind.{UnknownKind}

-- the byte that a kind is known by
abbrev pub byte_of : Kind → ℕ
byte_of Smp = 1
byte_of Open = 2
byte_of Primitive = 3
byte_of Frame = 4
byte_of Identify = 5
byte_of Leaving = 6

-- the kind that a byte names, or an error with a byte that names none
abbrev pub Names : ℕ → Result Kind UnknownKind → Type 0
Names byte r = MatchResult r (λ kind. byte_of kind ≡ byte) (λ e. (e.0 ≡ byte) × ((kind : Kind) → byte_of kind ≢ byte))
