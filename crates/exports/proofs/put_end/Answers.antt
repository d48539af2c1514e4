-- `exports::put_end` meets its contract.
use Rattle.exports.proofs.ExportLaws.{put_four_at_once}
use native.Mathlib.Omega.{arith}
use Rattle.exports.proofs.put_end.Goals as goal

pub returns : goal.returns
returns c = put_four_at_once _ _ _ _ _ _ _ _ (omega arith) (omega arith) c.copy_from_slice.ensures.after
