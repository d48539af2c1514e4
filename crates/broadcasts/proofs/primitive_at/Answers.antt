-- `broadcasts::primitive_at` meets its contract.
use Rattle.tables.proofs.OutcomeLaws.{refuses}
use Rattle.broadcasts.proofs.BroadcastLaws.{primitive_lent, primitive_small, announce_gives}
use Rattle.broadcasts.proofs.primitive_at.Goals as goal

pub returns-in_err-check_primitive : goal.returns-in_err-check_primitive
returns-in_err-check_primitive c = refuses _ _ _ _ _ _ _ c.from_residual.ensures.1 c.in_err-check_primitive.ensures

pub relay_primitive-requires : goal.relay_primitive-requires
relay_primitive-requires c =
    let e = c.in_ok-check_primitive.ensures in (search primitive_lent, search primitive_small)

pub returns : goal.returns
returns c = search (announce_gives, c.in_ok-check_primitive.ensures)
