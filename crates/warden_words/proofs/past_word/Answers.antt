-- `warden_words::past_word` meets its contract.
use Rattle.std.proofs.Common.{rules, arith, sym, ◌∙◌, length-take, length-drop}
use Rattle.warden_words.proofs.WordLaws.{lengths_of_same}
use Rattle.warden_words.proofs.past_word.Goals as goal

pub returns-then-same : goal.returns-then-same
returns-then-same c =
    let long = simp (length-take, length-drop) at (lengths_of_same _ _ (sym c.same.ensures ∙ c.if-same.true)) in
    (search rules, (omega (arith, long), omega arith))
