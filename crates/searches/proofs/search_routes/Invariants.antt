-- `searches::search_routes` meets its contract.
use mathlib.Core.Path.{◌≡◌}
use Prim.Native.Nat.{◌-◌}
use Rattle.searches.proofs.SearchLaws.{Agree, RoutesLeft}
use Rattle.searches.proofs.search_routes.Given as goal

abbrev pub invariant-bytes : goal.invariant-bytes
invariant-bytes l = (l.i ≡ l.initial.i) × Agree l.routes l.at l.frame 4 l.k

abbrev pub decreases-bytes : goal.decreases-bytes
decreases-bytes l = l.k

abbrev pub invariant-search : goal.invariant-search
invariant-search l = RoutesLeft l.phys l.routes l.frame l.count l.i

abbrev pub decreases-search : goal.decreases-search
decreases-search l = l.count - l.i
