-- `console_rows::packed_byte` meets its contract.
use Prim.Native.Nat.{◌-◌, ◌*◌, ◌/◌, ◌%◌}
use Rattle.wire.proofs.Sets.{Down}
use Rattle.console_rows.specs.Batches.{chosen}
use Rattle.console_rows.proofs.packed_byte.Given as goal

abbrev pub invariant-loop-j : goal.invariant-loop-j
invariant-loop-j l = Down (chosen l.choices (l.i / 16)) (8 * (15 - l.i % 16)) l.byte l.j
