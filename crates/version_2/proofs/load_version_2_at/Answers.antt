-- `version_2::load_version_2_at` meets its contract.
use Rattle.tables.proofs.OutcomeLaws.{refuses}
use Rattle.version_2.proofs.WholeLoads.{load_sizes, load_ready, phys_ready, load_gives_1, load_gives_2}
use borrow.Author.Rules.{rules}
use Rattle.version_2.proofs.load_version_2_at.Goals as goal

pub returns-in_err-check_load : goal.returns-in_err-check_load
returns-in_err-check_load c = refuses _ _ _ _ _ _ _ c.from_residual.ensures.1 c.in_err-check_load.ensures

pub restore_pairs-requires : goal.restore_pairs-requires
restore_pairs-requires c = load_ready _ _ _ _ c.in_ok-check_load.ensures (search rules)

pub version_of-requires : goal.version_of-requires
version_of-requires c = (load_sizes _ _ _ _ c.in_ok-check_load.ensures).2

pub returns-then-version_of-eq1 : goal.returns-then-version_of-eq1
returns-then-version_of-eq1 c = search (load_gives_1, c.in_ok-check_load.ensures)

pub restore_phys-requires : goal.restore_phys-requires
restore_phys-requires c = phys_ready _ _ _ _ c.in_ok-check_load.ensures _ c.version_of.ensures (search rules)

pub returns : goal.returns
returns c = search (load_gives_2, c.in_ok-check_load.ensures)
