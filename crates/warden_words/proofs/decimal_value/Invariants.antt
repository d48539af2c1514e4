-- `warden_words::decimal_value` meets its contract.
use Prim.Native.Nat.{◌≤◌}
use lib.ListN.{drop}
use mathlib.Core.Path.{◌≡◌}
use Rattle.warden_words.specs.Numbers.{decimal_from, at_most, held}
use Rattle.warden_words.proofs.decimal_value.Given as goal

abbrev pub invariant-loop-digit : goal.invariant-loop-digit
invariant-loop-digit l = (held l.word ≡ at_most 255 (decimal_from l.value (drop l.digit-index l.word))) × (l.value ≤ 255)
