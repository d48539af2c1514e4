-- `warden_lines::response_order` meets its contract.
use Rattle.warden_text.proofs.RoomLaws.{heard_fits}
use borrow.Author.Rules.{rules}
use Rattle.warden_lines.proofs.response_order.Goals as goal

pub put_heard-requires : goal.put_heard-requires
put_heard-requires c = (search heard_fits, search rules, search rules)
