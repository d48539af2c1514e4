-- `told_set::write_told_set` meets its contract.
use Rattle.told_set.proofs.Chains.{tell_start, tell_again, tell_end}
use Prim.Native.Nat.{◌*◌, ◌≤◌, ◌<◌}
use native.Mathlib.Omega.{arith}
use Rattle.tables.specs.Phys.{phy_count}
use Rattle.told_set.proofs.write_told_set.Goals as goal

pub loop-k-init : goal.loop-k-init
loop-k-init c = search tell_start

pub loop-k-preserved : goal.loop-k-preserved
loop-k-preserved c =
    let h : 8 * c.loop-k.k < phy_count c.args.phys.now = omega arith in search tell_again

pub returns : goal.returns
returns c =
    let h : phy_count c.args.phys.now ≤ 8 * c.loop-k.k = omega arith in search tell_end
