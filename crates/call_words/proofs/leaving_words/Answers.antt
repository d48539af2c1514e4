-- `call_words::leaving_words` meets its contract.
use Rattle.std.proofs.Common.{◌≡◌, length, rules}
use Rattle.call_words.specs.Gives.{leaving_gives}
use Rattle.call_words.proofs.SaidLaws.{gave_link, right-length}
use Rattle.call_words.proofs.leaving_words.Goals as goal

pub returns : goal.returns
unfolding leaving_gives
returns c =
    let none : length c.args.payload.now ≡ 0 = search rules in
    λ permissions.
    right-length _ _ _ _ _ _ permissions _ _ _ none
    (gave_link _ _ _ _ _ _ _ permissions c.leaving-linked.ensures c.linked_words.ensures.0 c.linked_words.ensures.1)
