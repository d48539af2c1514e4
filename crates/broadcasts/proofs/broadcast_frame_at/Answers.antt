-- `broadcasts::broadcast_frame_at` meets its contract.
use Rattle.broadcasts.proofs.BroadcastLaws.{frame_lent, frame_long, frame_refused, frame_gives}
use Rattle.broadcasts.proofs.broadcast_frame_at.Goals as goal

pub returns-in_err-check_frame : goal.returns-in_err-check_frame
returns-in_err-check_frame c = frame_refused _ _ _ _ _ _ _ _ _ c.from_residual.ensures.1 c.in_err-check_frame.ensures

pub relay_frame-requires : goal.relay_frame-requires
relay_frame-requires c =
    let e = c.in_ok-check_frame.ensures in (search frame_lent, search frame_long)

pub returns : goal.returns
returns c = search (frame_gives, c.in_ok-check_frame.ensures)
