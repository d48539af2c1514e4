-- `permit::start_table` meets its contract: row 0, every row as row 0, row 1.
use native.Mathlib.Omega.{arith}
use lib.ListN.{length-set}
use Rattle.permit.proofs.Laws.{two-rows}
use Rattle.permit.proofs.StartLaws.{steps_sized, start_made}
use Rattle.permit.proofs.start_table.Goals as goal

pub fill-requires : goal.fill-requires
fill-requires c = (omega arith, omega (arith, two-rows c.args.width (omega arith)))

pub bounds-permissions-width : goal.bounds-permissions-width
bounds-permissions-width c = omega (arith, two-rows c.args.width (omega arith))

pub repeat_row-requires : goal.repeat_row-requires
repeat_row-requires c = record { some = omega arith; most = omega arith; sized = simp length-set (omega arith) }

pub fill-requires-2 : goal.fill-requires-2
fill-requires-2 c = (omega arith, omega (arith, two-rows c.args.width (omega arith)))

pub shape_of-permissions : goal.shape_of-permissions
shape_of-permissions c = search steps_sized

pub returns : goal.returns
returns c = search (start_made c.args.width (omega arith))
