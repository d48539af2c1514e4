-- `warden_lines::report_order` meets its contract.
use Rattle.warden_text.proofs.RoomLaws.{built_fits}
use native.Mathlib.Omega.{arith}
use Rattle.warden_lines.proofs.report_order.Goals as goal

pub put_built-requires : goal.put_built-requires
put_built-requires c = (search built_fits, omega arith, omega arith)
