-- `exports::put_row` meets its contract.
use Rattle.permit.specs.Permission.{groups}
use Rattle.exports.specs.Export.{pair_text}
use Rattle.lines.proofs.Putting.{Putting}
use Rattle.exports.proofs.put_row.Given as goal

abbrev pub invariant-loop-b : goal.invariant-loop-b
invariant-loop-b l = Putting (pair_text l.width l.permissions l.a.0) l.a.0 (groups l.width) l.initial.text l.at l.text l.end l.b
