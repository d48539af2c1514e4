-- `imports::import_lines` meets its contract.
use Prim.Native.Nat.{◌-◌}
use lib.ListN.{length}
use Rattle.std.proofs.Common.{Some}
use Rattle.imports.proofs.ImportLaws.{Importing}
use Rattle.imports.proofs.import_lines.Given as goal

abbrev pub invariant-loop-at : goal.invariant-loop-at
invariant-loop-at l = Importing l.width (Some l.source) l.sheet l.initial.permissions l.permissions l.at l.lines

abbrev pub decreases-loop-at : goal.decreases-loop-at
decreases-loop-at l = length l.sheet - l.at
