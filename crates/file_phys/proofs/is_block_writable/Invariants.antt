-- `file_phys::is_block_writable` meets its contract.
use Prim.Native.Nat.{◌/◌}
use lib.ListN.{length}
use Rattle.wire.proofs.RunLaws.{Judged}
use Rattle.file_phys.specs.Block.{entry_writable, all_writable}
use Rattle.file_phys.proofs.is_block_writable.Given as goal

abbrev pub invariant-loop-i : goal.invariant-loop-i
invariant-loop-i l = Judged (all_writable l.width l.block) (entry_writable l.width l.block) (length l.block / 3) l.i
