-- `opens::open_at` meets its contract.
use mathlib.Core.Path.{sym}
use Rattle.tables.proofs.OutcomeLaws.{refuses}
use Rattle.searches.proofs.SearchLaws.{search-names}
use Rattle.opens.proofs.OpenSteps.{open_most, open_there, open_table, open_frame, open_room, open_none, open_to}
use Rattle.opens.proofs.open_at.Goals as goal

pub returns-in_err-check_open : goal.returns-in_err-check_open
returns-in_err-check_open c = refuses _ _ _ _ _ _ _ c.from_residual.ensures.1 c.in_err-check_open.ensures

pub search-requires : goal.search-requires
search-requires c =
    let e = c.in_ok-check_open.ensures in (search open_most, search open_frame)

pub returns-in_default : goal.returns-in_default
returns-in_default c = search (open_none, c.in_ok-check_open.ensures)

pub admit-requires : goal.admit-requires
admit-requires c =
    let e = c.in_ok-check_open.ensures in
    let n = search-names _ _ _ _ (sym c.in-Some.ensures) in
    (search open_there, search open_table, search open_frame, search open_room, n.0)

pub returns : goal.returns
returns c = search (open_to, c.in_ok-check_open.ensures)
