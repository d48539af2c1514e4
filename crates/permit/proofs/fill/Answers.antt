-- `permit::fill` meets its contract.
use Rattle.std.proofs.Common.{rules}
use native.Mathlib.Omega.{arith}
use Rattle.permit.proofs.StartLaws.{between_filled}
use Rattle.permit.proofs.fill.Goals as goal

pub returns : goal.returns
returns c = between_filled _ _ _ _ _ (omega arith) (omega arith) (search rules)
