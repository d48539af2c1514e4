-- `rack::store` meets its contract.
use mathlib.Core.Path.{◌≡◌}
use native.Mathlib.Omega.{arith}
use lib.ListN.{length}
use Rattle.rack.proofs.Records.{store_done}
use borrow.Author.Rules.{rules}
use Rattle.rack.proofs.store.Goals as goal

pub put_bytes-end-requires : goal.put_bytes-end-requires
put_bytes-end-requires c = let h : length c.args.r.address ≡ 8 = search rules in omega arith

pub put_bytes-requires : goal.put_bytes-requires
put_bytes-requires c = let h : length c.args.r.address ≡ 8 = search rules in omega arith

pub returns : goal.returns
returns c = search store_done
