-- `searches::search_phys` meets its contract.
use mathlib.Core.Path.{◌≡◌}
use Prim.Native.Nat.{◌-◌}
use Rattle.searches.proofs.SearchLaws.{Agree, PhysLeft}
use Rattle.searches.proofs.search_phys.Given as goal

abbrev pub invariant-bytes : goal.invariant-bytes
invariant-bytes l = (l.i ≡ l.initial.i) × Agree l.phys l.at l.frame 4 l.k

abbrev pub decreases-bytes : goal.decreases-bytes
decreases-bytes l = l.k

abbrev pub invariant-search : goal.invariant-search
invariant-search l = PhysLeft l.phys l.frame l.count l.i

abbrev pub decreases-search : goal.decreases-search
decreases-search l = l.count - l.i
