-- `tables::ready_at` meets its contract.
use Rattle.tables.proofs.PhyLaws.{ready_out}
use Rattle.tables.proofs.ready_at.Goals as goal

pub returns-then-phys-i : goal.returns-then-phys-i
returns-then-phys-i c = search ready_out
