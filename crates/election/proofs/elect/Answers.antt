-- `election::elect` meets its contract.
use Rattle.tables.proofs.OutcomeLaws.{refuses, gives}
use Rattle.election.proofs.Steps.{elect_most, supervises}
use Rattle.election.proofs.ElectionLaws.{elected_fits}
use Rattle.election.proofs.elect.Goals as goal

pub returns-in_err-check_elect : goal.returns-in_err-check_elect
returns-in_err-check_elect c = refuses _ _ _ _ _ _ _ c.from_residual.ensures.1 c.in_err-check_elect.ensures

pub elect_both-best-requires : goal.elect_both-best-requires
elect_both-best-requires c = search (elect_most, c.in_ok-check_elect.ensures)

pub overflow_cast-result : goal.overflow_cast-result
overflow_cast-result c = search elected_fits

pub returns : goal.returns
returns c = search (gives, supervises, c.in_ok-check_elect.ensures)
