-- How much the console's answers take up.
use Rattle.std.specs.Prelude.{ℕ, Result, Ok, Err}
use Rattle.console_orders.specs.declared.Refusal.{Refusal}
use Rattle.console_reading.specs.declared.Heard.{Heard}
use Rattle.console_reading.specs.declared.Heard.TheVariants as told

-- bytes of a request that was built
abbrev pub built_length : Result ℕ Refusal → ℕ
built_length (Err e) = 0
built_length (Ok m) = m

-- rows of a report that was read
abbrev pub said_rows : Heard → ℕ
said_rows (told.Result f r) = 0
said_rows (told.Rows s k) = k

abbrev pub heard_rows : Result Heard Refusal → ℕ
heard_rows (Err e) = 0
heard_rows (Ok h) = said_rows h
