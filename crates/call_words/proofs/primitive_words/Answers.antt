-- `call_words::primitive_words` meets its contract.
use native.Mathlib.Omega.{arith}
use Rattle.lines.specs.Words.{told_words}
use Rattle.call_words.specs.Gives.{primitive_gives}
use Rattle.call_words.proofs.SaidLaws.{gave, right-length}
use Rattle.call_words.proofs.primitive_words.Goals as goal

pub returns : goal.returns
unfolding primitive_gives
returns c =
    right-length _ _ _ _ _ _ _ _ _ _ (omega arith)
    (gave _ _ _ _ _ _ told_words _ _ _ c.primitive-told.ensures c.told_words.ensures.0 c.told_words.ensures.1)
