-- `exports::put_field` meets its contract.
use mathlib.Core.Path.{◌∙◌}
use Rattle.exports.proofs.ExportLaws.{field_put_at_once}
use native.Mathlib.Omega.{arith}
use Rattle.exports.proofs.put_field.Goals as goal

pub returns : goal.returns
returns c = field_put_at_once _ _ _ _ _ _ _ c.field_of-field.ensures (omega arith) (omega arith) (c.copy_from_slice.ensures.after ∙ c.to_le_bytes.ensures)
