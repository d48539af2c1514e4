-- `zonefile_text::put_file` meets its contract.
use Rattle.zonefile_text.proofs.ZonefileLaws.{file_done, save_taken}
use borrow.Author.Rules.{rules}
use Rattle.zonefile_text.proofs.put_file.Goals as goal

pub returns-in-Ok : goal.returns-in-Ok
returns-in-Ok c = file_done _ _ _ _ (search rules) (search rules) (search rules) c.save_version_1.ensures _ c.in-Ok.is

pub returns-in-Err : goal.returns-in-Err
returns-in-Err c = absurd (search save_taken)
