-- `broadcasts::write_frame` meets its contract.
use Rattle.broadcasts.proofs.BroadcastLaws.{frame_made}
use Rattle.broadcasts.proofs.write_frame.Goals as goal

pub returns : goal.returns
returns c = search frame_made
