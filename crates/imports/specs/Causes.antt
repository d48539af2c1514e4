-- Why a line fails, by number: "line text that isn't such a line or has no line end, a group below 2 or above 127, caller without the right".
use Rattle.std.specs.Prelude.{ℕ, Result, ⊤}
use Rattle.tables.specs.Numbers.{refused_by}
use Rattle.imports.specs.declared.cause.Cause.{Cause}
use Rattle.imports.specs.declared.cause.Cause.TheVariants.{BadText, NoSuchGroup, NoRight}

abbrev pub number : Cause → ℕ
number BadText = 1
number NoSuchGroup = 2
number NoRight = 3

-- what a check of a line answers: 0 where the line is carried out
abbrev pub caused : Result ⊤ Cause → ℕ
caused = refused_by number
