-- `version_2::check_load` meets its contract.
use Rattle.tables.proofs.RefusalLaws.{rows}
use Rattle.version_2.specs.Version2.{load_whole_checks}
use Rattle.version_2.proofs.WholeLoads.{version_judged}
use Rattle.version_2.proofs.check_load.Goals as goal

pub returns-then-not-phys_sized : goal.returns-then-not-phys_sized
unfolding load_whole_checks
returns-then-not-phys_sized c = search rows depth 16

pub returns-then-not-permissions_sized : goal.returns-then-not-permissions_sized
unfolding load_whole_checks
returns-then-not-permissions_sized c = search rows depth 16

pub returns-then-file-lt-TRAILER : goal.returns-then-file-lt-TRAILER
unfolding load_whole_checks
returns-then-file-lt-TRAILER c = search rows depth 16

pub returns : goal.returns
returns c = search version_judged
