-- `version_2::check_version` meets its contract.
use Rattle.version_2.proofs.WholeLoads.{as_1, as_2, unknown}
use Rattle.version_2.proofs.check_version.Goals as goal

pub returns-then-version-eq1 : goal.returns-then-version-eq1
returns-then-version-eq1 c = search as_1

pub returns-then-version-ne2 : goal.returns-then-version-ne2
returns-then-version-ne2 c = search unknown

pub returns : goal.returns
returns c = search as_2
