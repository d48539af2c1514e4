-- `broadcasts::relay_frame` meets its contract.
use mathlib.Core.Path.{ap}
use mathlib.Core.Bool.{not}
use Rattle.broadcasts.proofs.BroadcastLaws.{frame_alone, frame_none, frame_from, group-small}
use native.Mathlib.Omega.{arith}
use borrow.Author.Rules.{rules}
use Rattle.broadcasts.proofs.relay_frame.Goals as goal

pub returns-then-not-is_participating : goal.returns-then-not-is_participating
returns-then-not-is_participating c = search frame_alone

pub returns-in_err-source : goal.returns-in_err-source
returns-in_err-source c =
    let e = c.in_err-source.ensures in
    search (frame_none, ap not c.if-not-is_participating.false, e.value, e.ok_part, c.from_residual.ensures.1)

pub announce-requires : goal.announce-requires
announce-requires c =
    let e = c.in_ok-source.ensures.ok_part in (search rules, search group-small, omega arith)

pub returns : goal.returns
returns c = search (frame_from, c.in_ok-source.ensures.ok_part)
