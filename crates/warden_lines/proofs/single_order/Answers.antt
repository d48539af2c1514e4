-- `warden_lines::single_order` meets its contract.
use Rattle.warden_text.proofs.RoomLaws.{built_fits}
use borrow.Author.Rules.{rules}
use Rattle.warden_lines.proofs.single_order.Goals as goal

pub put_built-requires : goal.put_built-requires
put_built-requires c = (search built_fits, search rules, c.requires.1)
