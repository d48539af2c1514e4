-- `call_words::frame_words` meets its contract.
use Rattle.lines.specs.Words.{told_words}
use Rattle.call_words.specs.Gives.{broadcast_gives}
use Rattle.call_words.proofs.SaidLaws.{gave}
use Rattle.call_words.proofs.frame_words.Goals as goal

pub returns : goal.returns
unfolding broadcast_gives
returns c = gave _ _ _ _ _ _ told_words _ _ _ c.broadcast_frame-told.ensures c.told_words.ensures.0 c.told_words.ensures.1
