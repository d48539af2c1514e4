-- `searches::search_phys` meets its contract.
use mathlib.Core.Path.{ap}
use mathlib.Core.Bool.{not}
use Rattle.searches.proofs.SearchLaws.{agree_again, phys_other, phys_down, phys_here, phys_none}
use Rattle.searches.proofs.search_phys.Goals as goal

pub search-preserved-then-phys-at : goal.search-preserved-then-phys-at
search-preserved-then-phys-at c = search phys_other

pub bytes-preserved : goal.bytes-preserved
bytes-preserved c = search agree_again

pub search-preserved : goal.search-preserved
search-preserved c = phys_down _ _ _ _ _ c.search.invariant c.if-i-count.false c.bytes.invariant.0 _ c.is_ready.ensures (ap not c.if-not-is_ready.true)

pub returns-then-i-count : goal.returns-then-i-count
returns-then-i-count c = search phys_none

pub returns-else-not-is_ready : goal.returns-else-not-is_ready
returns-else-not-is_ready c = search phys_here
