-- `searches::search_routes` meets its contract.
use mathlib.Core.Path.{ap}
use mathlib.Core.Bool.{not}
use Rattle.searches.proofs.SearchLaws.{agree_again, routes_other, routes_down, routes_skipped, routes_here, routes_none}
use Rattle.searches.proofs.search_routes.Goals as goal

pub search-preserved-then-routes-at : goal.search-preserved-then-routes-at
search-preserved-then-routes-at c = search routes_other

pub bytes-preserved : goal.bytes-preserved
bytes-preserved c = search agree_again

pub search-preserved-then-not-is_usable : goal.search-preserved-then-not-is_usable
search-preserved-then-not-is_usable c = routes_down _ _ _ _ _ _ c.search.invariant c.if-i-count.false c.bytes.invariant.0 _ _ c.route_phy-phy.ensures c.is_usable.ensures (ap not c.if-not-is_usable.true)

pub search-preserved : goal.search-preserved
search-preserved c = search routes_skipped

pub returns-then-i-count : goal.returns-then-i-count
returns-then-i-count c = search routes_none

pub returns-in-Some : goal.returns-in-Some
returns-in-Some c = search routes_here
