-- `zonefile_text::zone_text` meets its contract.
use Rattle.zonefile_text.specs.ZonefileText.{save_word, load_word}
use Rattle.zonefile_text.proofs.ZonefileLaws.{save_said_lem, load_said_lem, usage_said}
use Rattle.zonefile_text.proofs.zone_text.Goals as goal

pub returns-then-same : goal.returns-then-same
unfolding save_word load_word
returns-then-same c = search save_said_lem

pub returns-then-same-2 : goal.returns-then-same-2
unfolding save_word load_word
returns-then-same-2 c = search load_said_lem

pub returns : goal.returns
unfolding save_word load_word
returns c = search usage_said
