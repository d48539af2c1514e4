-- `tables::ready_byte` meets its contract.
use Prim.Native.Nat.{◌*◌}
use Rattle.wire.proofs.Sets.{Down}
use Rattle.tables.specs.Phys.{ready}
use Rattle.tables.proofs.ready_byte.Given as goal

abbrev pub invariant-loop-j : goal.invariant-loop-j
invariant-loop-j l = Down (ready l.phys) (8 * l.k) l.byte l.j
