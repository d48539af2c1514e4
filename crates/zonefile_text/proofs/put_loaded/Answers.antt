-- `zonefile_text::put_loaded` meets its contract.
use Rattle.zonefile_text.proofs.ZonefileLaws.{version_said, refusal_said}
use Rattle.zonefile_text.proofs.put_loaded.Goals as goal

pub returns-in-Ok : goal.returns-in-Ok
returns-in-Ok c = search version_said

pub returns-in-Err : goal.returns-in-Err
returns-in-Err c = search refusal_said
