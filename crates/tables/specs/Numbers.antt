-- "Numbered refusals": the number of each, and what a check and a call answer in these numbers.
use Rattle.std.specs.Prelude.{List, ℕ, Result, Ok, Err, ⊤}
use Rattle.tables.specs.Outcome.{Answer, refusal, answer}
use Rattle.tables.specs.declared.refusal.Refusal.{Refusal}
use Rattle.tables.specs.declared.refusal.Refusal.TheVariants.{WrongSize, NoSuchPhy, NoRoom, WrongLength, WrongField, NotParticipating, WrongState, TooLong, TooShort, IsVersion2, VersionUnknown, LengthsDisagree, OffsetDisagrees, PhyCountDisagrees, BadPair, BadPhy, BadZone, PermissionsNotAsDescribed, PhysNotAsDescribed}

-- document 01's are 1 to 8, those of saved files 31 to 41
abbrev pub number : Refusal → ℕ
number WrongSize = 1
number NoSuchPhy = 2
number NoRoom = 3
number WrongLength = 4
number WrongField = 5
number NotParticipating = 6
number WrongState = 7
number TooLong = 8
number TooShort = 31
number IsVersion2 = 32
number VersionUnknown = 33
number LengthsDisagree = 34
number OffsetDisagrees = 35
number PhyCountDisagrees = 36
number BadPair = 37
number BadPhy = 38
number BadZone = 39
number PermissionsNotAsDescribed = 40
number PhysNotAsDescribed = 41

-- what a check answers, where `n` numbers what it refuses for: 0 where nothing is refused
abbrev pub refused_by : {E : Type 0} → (E → ℕ) → Result ⊤ E → ℕ
refused_by n (Ok _) = 0
refused_by n (Err e) = n e

abbrev pub refused : Result ⊤ Refusal → ℕ
refused = refused_by number

-- what a call answers, where `values` are the numbers of what it gives
abbrev pub answered_by : {A E : Type 0} → (E → ℕ) → (A → List ℕ) → Result A E → Answer
answered_by n values (Ok a) = answer (values a)
answered_by n values (Err e) = refusal (n e)

abbrev pub answered : {A : Type 0} → (A → List ℕ) → Result A Refusal → Answer
answered = answered_by number
