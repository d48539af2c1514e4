-- `permit::write_one` meets its contract.
use Rattle.permit.proofs.Laws.{set_masked}
use Rattle.permit.proofs.write_one.Goals as goal

pub returns : goal.returns
returns c = search set_masked
