-- `version_1::load_version_1_at` meets its contract.
use Rattle.tables.proofs.OutcomeLaws.{refuses, gives}
use Rattle.version_1.proofs.Loads.{load_ready}
use borrow.Author.Rules.{rules}
use Rattle.version_1.proofs.load_version_1_at.Goals as goal

pub returns-in_err-check_load : goal.returns-in_err-check_load
returns-in_err-check_load c = refuses _ _ _ _ _ _ _ c.from_residual.ensures.1 c.in_err-check_load.ensures

pub restore_pairs-requires : goal.restore_pairs-requires
restore_pairs-requires c = load_ready _ _ _ c.in_ok-check_load.ensures (search rules)

pub returns : goal.returns
returns c = search (gives, c.in_ok-check_load.ensures)
