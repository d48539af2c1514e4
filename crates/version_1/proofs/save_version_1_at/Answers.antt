-- `version_1::save_version_1_at` meets its contract.
use Rattle.tables.proofs.OutcomeLaws.{refuses}
use Rattle.version_1.proofs.Saves.{save_ready, save_short, save_gives}
use borrow.Author.Rules.{rules}
use Rattle.version_1.proofs.save_version_1_at.Goals as goal

pub returns-in_err-check_save : goal.returns-in_err-check_save
returns-in_err-check_save c = refuses _ _ _ _ _ _ _ c.from_residual.ensures.1 c.in_err-check_save.ensures

pub write_file-end-requires : goal.write_file-end-requires
write_file-end-requires c = save_ready _ _ _ (search rules) c.in_ok-check_save.ensures

pub overflow_cast-result : goal.overflow_cast-result
overflow_cast-result c = search (save_short, c.in_ok-check_save.ensures)

pub returns : goal.returns
returns c = search (save_gives, c.in_ok-check_save.ensures)
