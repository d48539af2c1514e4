-- `zone_permission::configure_zone_permission` meets its contract.
use native.Mathlib.Omega.{arith}
use borrow.Author.Rules.{rules}
use Rattle.requests.proofs.RequestLaws.{leaves_down}
use Rattle.zone_permission.specs.ZonePermission.{Accepted, permission_reply}
use Rattle.zone_permission.proofs.PermissionLaws.{accepted, leaves_orders}
use Rattle.zone_permission.proofs.configure_zone_permission.Goals as goal

pub returns-in-Err : goal.returns-in-Err
unfolding permission_reply
returns-in-Err c = leaves_down _ _ _ _ _ _ _ _ _ _ _ _ _ _ c.in-Err.ensures.number c.in-Err.ensures.turned_down (c.turn_down.ensures _ _)

pub obey-requires : goal.obey-requires
obey-requires c = (search rules, accepted _ _ _ _ _ _ c.in_default.ensures.number)

pub write_permission_set-requires : goal.write_permission_set-requires
write_permission_set-requires c =
    let a : Accepted c.args.width c.args.request.now = accepted _ _ _ _ _ _ c.in_default.ensures.number in
    (omega arith, a.long, omega arith)

pub returns : goal.returns
returns c = search (leaves_orders, c.in_default.ensures.number)
