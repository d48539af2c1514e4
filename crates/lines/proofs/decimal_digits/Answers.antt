-- `lines::decimal_digits` meets its contract.
use lib.ListN.{length-set}
use Rattle.lines.proofs.Lines.{spell_start, spell_room, spell_again, spell_end}
use native.Mathlib.Omega.{arith}
use Rattle.lines.proofs.decimal_digits.Goals as goal

pub loop-rest-init : goal.loop-rest-init
loop-rest-init c = spell_start _ _ c.requires (omega arith)

pub overflow_sub-start : goal.overflow_sub-start
overflow_sub-start c = search spell_room

pub loop-rest-preserved : goal.loop-rest-preserved
loop-rest-preserved c = search spell_again

pub shape_of-figures : goal.shape_of-figures
shape_of-figures c = simp length-set (omega arith)

pub returns : goal.returns
returns c = spell_end _ _ _ _ (omega arith) c.loop-rest.invariant
