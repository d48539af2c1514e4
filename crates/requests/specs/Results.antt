-- "Function results": the byte of each, and what a check answers in these bytes.
use Rattle.std.specs.Prelude.{ℕ, Result, ⊤}
use Rattle.tables.specs.Numbers.{refused_by}
use Rattle.requests.specs.declared.FunctionResult.{FunctionResult}
use Rattle.requests.specs.declared.FunctionResult.TheVariants.{Accepted, UnknownFunction, Failed, InvalidLength, NoSuchPhy, NoSuchIndex, Vacant}

abbrev pub number : FunctionResult → ℕ
number Accepted = 0x00
number UnknownFunction = 0x01
number Failed = 0x02
number InvalidLength = 0x03
number NoSuchPhy = 0x10
number NoSuchIndex = 0x11
number Vacant = 0x16

-- what a rule's checks answer: 00h where they turn nothing down
abbrev pub checked : Result ⊤ FunctionResult → ℕ
checked = refused_by number
