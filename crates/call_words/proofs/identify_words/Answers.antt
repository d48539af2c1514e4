-- `call_words::identify_words` meets its contract.
use Rattle.std.proofs.Common.{◌≡◌, length, rules}
use Rattle.call_words.specs.Gives.{identify_gives}
use Rattle.call_words.proofs.SaidLaws.{of_payload, gave_link, right-length}
use Rattle.call_words.proofs.identify_words.Goals as goal

pub returns : goal.returns
unfolding identify_gives
returns c =
    let e = c.in-Ok.ensures in
    let eight : length c.args.payload.now ≡ 8 = search (rules, e) in
    let same : c.in-Ok.address ≡ c.args.payload.now = search (rules, e) in
    λ permissions.
    right-length _ _ _ _ _ _ permissions _ _ _ eight
    (gave_link _ _ _ _ _ _ _ permissions (of_payload _ _ _ _ _ _ _ c.identify-linked.ensures same) c.linked_words.ensures.0 c.linked_words.ensures.1)
