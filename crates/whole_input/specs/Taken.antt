-- What `take_input` answers.
use Rattle.std.specs.Prelude.{Result, Ok, Err, ℕ}
use Rattle.whole_input.specs.declared.Unreadable.{Unreadable}

-- how many bytes were read, whether or not a read failed behind them
abbrev pub had : Result ℕ Unreadable → ℕ
had (Ok have) = have
had (Err e) = e.have
