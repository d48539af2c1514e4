-- `call_words::open_words` meets its contract.
use Rattle.lines.specs.Words.{outcome_words}
use Rattle.call_words.specs.Gives.{open_gives}
use Rattle.call_words.proofs.SaidLaws.{gave}
use Rattle.call_words.proofs.open_words.Goals as goal

pub returns-in-Ok : goal.returns-in-Ok
unfolding open_gives
returns-in-Ok c = gave _ _ _ _ _ _ outcome_words _ _ _ c.in-Ok.ensures c.outcome_words.ensures.0 c.outcome_words.ensures.1

pub returns-in-Err : goal.returns-in-Err
unfolding open_gives
returns-in-Err c = gave _ _ _ _ _ _ outcome_words _ _ _ c.in-Err.ensures c.refusal_words.ensures.0 c.refusal_words.ensures.1
