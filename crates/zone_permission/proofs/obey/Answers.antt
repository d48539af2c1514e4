-- `zone_permission::obey` meets its contract.
use native.Mathlib.Omega.{arith}
use Rattle.zone_permission.proofs.PermissionLaws.{single-named, batch-named, obeys_single, obeys_batch}
use Rattle.zone_permission.proofs.obey.Goals as goal

pub obey_single-requires : goal.obey_single-requires
obey_single-requires c =
    let n = single-named c.args.width c.args.request.now (omega arith) c.requires.1 in
    (c.requires.0, omega arith, omega arith, omega arith)

pub batch-requires : goal.batch-requires
batch-requires c =
    let r = batch-named c.args.width c.args.request.now c.if-operation-eq8.false c.requires.1 in
    (c.requires.0, omega (arith, r.whole), r.within, r.held)

pub returns-then-operation-eq8 : goal.returns-then-operation-eq8
returns-then-operation-eq8 c = search obeys_single

pub returns-else-operation-eq8 : goal.returns-else-operation-eq8
returns-else-operation-eq8 c = search obeys_batch
