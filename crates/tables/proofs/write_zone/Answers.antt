-- `tables::write_zone` meets its contract.
use lib.ListN.{length-set}
use Rattle.tables.specs.Phys.{zoned}
use native.Mathlib.Omega.{arith}
use borrow.Author.Rules.{rules}
use Rattle.tables.proofs.write_zone.Goals as goal

pub bounds-phys-i-2 : goal.bounds-phys-i-2
bounds-phys-i-2 c = simp length-set (omega arith)

pub returns : goal.returns
unfolding zoned
returns c = search rules
