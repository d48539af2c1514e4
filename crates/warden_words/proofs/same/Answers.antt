-- `warden_words::same` meets its contract.
use Rattle.warden_words.proofs.WordLaws.{pointwise-same}
use Rattle.std.proofs.Common.{◌∙◌}
use Rattle.warden_words.proofs.same.Goals as goal

pub returns : goal.returns
returns c = c.eq.ensures ∙ pointwise-same _ _
