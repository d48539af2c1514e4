-- `discover::discover` meets its contract.
use native.Mathlib.Omega.{arith}
use Rattle.requests.proofs.RequestLaws.{leaves_down}
use Rattle.discover.specs.Discover.{discover_reply}
use Rattle.discover.proofs.DiscoverLaws.{discover_long, discover_there, discover_done}
use Rattle.discover.proofs.discover.Goals as goal

pub returns-in-Err : goal.returns-in-Err
unfolding discover_reply
returns-in-Err c = leaves_down _ _ _ _ _ _ _ _ _ _ _ _ _ _ c.in-Err.ensures.number c.in-Err.ensures.turned_down (c.turn_down.ensures _ _)

pub bounds-request-9 : goal.bounds-request-9
bounds-request-9 c = search (discover_long, c.in_default.ensures.number)

pub describe-requires : goal.describe-requires
describe-requires c = (search (discover_there, c.in_default.ensures.number), omega arith)

pub returns : goal.returns
returns c = search (discover_done, c.in_default.ensures.number)
