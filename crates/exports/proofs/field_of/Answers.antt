-- `exports::field_of` meets its contract.
use Rattle.exports.proofs.ExportLaws.{field_one, field_two, field_three}
use native.Mathlib.Omega.{arith}
use Rattle.exports.proofs.field_of.Goals as goal

pub returns-then-n-ge100 : goal.returns-then-n-ge100
returns-then-n-ge100 c = field_three _ (omega arith) (omega arith)

pub returns-then-n-ge10 : goal.returns-then-n-ge10
returns-then-n-ge10 c = field_two _ (omega arith) (omega arith)

pub returns : goal.returns
returns c = field_one _ (omega arith)
