-- `zonefile_text::put_saved` meets its contract.
use Rattle.std.proofs.Common.{ap, ◌∙◌, Ok}
use Rattle.orders_text.proofs.AnswerLaws.{import_taken}
use Rattle.zonefile_text.proofs.ZonefileLaws.{given-described, whole_said, stop_said}
use borrow.Author.Rules.{rules}
use Rattle.zonefile_text.proofs.put_saved.Goals as goal

pub put_file-requires : goal.put_file-requires
put_file-requires c = (search rules, search given-described, search rules)

pub returns-in-Ok-Whole : goal.returns-in-Ok-Whole
returns-in-Ok-Whole c = whole_said _ _ _ _ _ _ c.give_orders.ensures _ (c.in-Ok-Whole.is ∙ ap Ok c.in-Ok-Whole.field-0-is) c.put_file.ensures

pub returns-in-Ok-Stopped : goal.returns-in-Ok-Stopped
returns-in-Ok-Stopped c = stop_said _ _ _ _ _ _ c.give_orders.ensures _ _ (c.in-Ok-Stopped.is ∙ ap Ok c.in-Ok-Stopped.field-0-is) c.put_stop.ensures

pub returns-in-Err : goal.returns-in-Err
returns-in-Err c = absurd (search import_taken)
