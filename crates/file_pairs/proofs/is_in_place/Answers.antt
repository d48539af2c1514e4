-- `file_pairs::is_in_place` meets its contract.
use Rattle.file_pairs.proofs.Records.{place_said}
use Rattle.file_pairs.proofs.is_in_place.Goals as goal

pub returns : goal.returns
returns c = search place_said
