-- `opens::write_frame` meets its contract.
use Rattle.opens.proofs.OpenSteps.{write_end}
use Rattle.opens.proofs.write_frame.Goals as goal

pub returns : goal.returns
returns c = search write_end
