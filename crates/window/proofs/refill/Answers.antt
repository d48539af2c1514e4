-- `window::refill` meets its contract: the read writes behind the unread bytes.
use native.Mathlib.Omega.{arith}
use Rattle.window.proofs.KeepLaws.{kept_front}
use Rattle.window.proofs.refill.Goals as goal

pub returns-clause-kept : goal.returns-clause-kept
returns-clause-kept g c = kept_front _ _ _ _ _ _ (omega arith) c.keep.ensures (omega arith)
