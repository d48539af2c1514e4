-- `election::elect_phys` meets its contract.
use Rattle.election.proofs.Steps.{phys_again, phys_end}
use Rattle.election.proofs.elect_phys.Goals as goal

pub loop-i-preserved : goal.loop-i-preserved
loop-i-preserved c = search phys_again

pub returns : goal.returns
returns c = search phys_end
