-- `console_zones::write_entries` meets its contract.
use Rattle.console_orders.proofs.BuildLaws.{put-start, put_again, put_end}
use native.Mathlib.Omega.{arith}
use Rattle.console_zones.proofs.write_entries.Goals as goal

pub loop-i-init : goal.loop-i-init
loop-i-init c = put-start _ _ _ _ (omega arith)

pub loop-i-preserved : goal.loop-i-preserved
loop-i-preserved c = search put_again

pub returns : goal.returns
returns c = search put_end
