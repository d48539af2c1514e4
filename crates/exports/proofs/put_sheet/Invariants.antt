-- `exports::put_sheet` meets its contract.
use Rattle.permit.specs.Permission.{groups}
use Rattle.exports.specs.Export.{row_text}
use Rattle.lines.proofs.Putting.{Putting}
use Rattle.exports.proofs.put_sheet.Given as goal

abbrev pub invariant-loop-a : goal.invariant-loop-a
invariant-loop-a l = Putting (row_text l.width l.permissions) 2 (groups l.width) l.initial.text 0 l.text l.end l.a
