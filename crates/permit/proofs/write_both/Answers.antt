-- `permit::write_both` meets its contract.
use Rattle.permit.specs.Permission.{set_both}
use Rattle.permit.proofs.write_both.Goals as goal

pub returns : goal.returns
unfolding set_both
returns c = cc
