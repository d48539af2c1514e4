-- `console_zones::all_small` meets its contract.
use Rattle.wire.proofs.RunLaws.{judged_start, judged_off, judged_again, judged_end}
use Rattle.console_zones.proofs.all_small.Goals as goal

pub loop-i-init : goal.loop-i-init
loop-i-init c = search judged_start

pub returns-then-not-is_small : goal.returns-then-not-is_small
returns-then-not-is_small c = search judged_off

pub loop-i-preserved : goal.loop-i-preserved
loop-i-preserved c = search judged_again

pub returns : goal.returns
returns c = search judged_end
