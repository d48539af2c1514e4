-- `rack::start_rack` meets its contract: the constant is the specification's rack.
use Rattle.rack.proofs.Records.{stored_again, stored_end}
use Rattle.rack.specs.Rack.{rack}
use native.Mathlib.Omega.{arith}
use Rattle.rack.proofs.start_rack.Goals as goal

pub loop-i-preserved : goal.loop-i-preserved
unfolding rack
loop-i-preserved c =
    let l = c.loop-i in
    stored_again _ l.phys _ l.i (omega arith) c.store.ensures l.invariant

pub returns : goal.returns
returns c = search stored_end
