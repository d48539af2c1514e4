-- `version_1::check_load` meets its contract.
use Rattle.version_1.proofs.Loads.{version_2, version_unknown, version_1}
use Rattle.tables.proofs.RefusalLaws.{rows}
use Rattle.version_1.proofs.check_load.Goals as goal

pub returns-then-not-permissions_sized : goal.returns-then-not-permissions_sized
returns-then-not-permissions_sized c = search rows depth 16

pub returns-then-file-lt-TRAILER : goal.returns-then-file-lt-TRAILER
returns-then-file-lt-TRAILER c = search rows depth 16

pub returns-then-version-eq2 : goal.returns-then-version-eq2
returns-then-version-eq2 c = search version_2

pub returns-then-version-ne1 : goal.returns-then-version-ne1
returns-then-version-ne1 c = search version_unknown

pub returns : goal.returns
returns c = search version_1
