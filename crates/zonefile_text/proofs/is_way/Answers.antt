-- `zonefile_text::is_way` meets its contract.
use Rattle.zonefile_text.specs.ZonefileText.{save_word, load_word}
use Rattle.zonefile_text.proofs.ZonefileLaws.{way_save, way_load}
use Rattle.zonefile_text.proofs.is_way.Goals as goal

pub returns-then-same : goal.returns-then-same
unfolding save_word load_word
returns-then-same c = search way_save

pub returns : goal.returns
unfolding save_word load_word
returns c = search way_load
