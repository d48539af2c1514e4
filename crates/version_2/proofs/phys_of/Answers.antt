-- `version_2::phys_of` meets its contract.
use Rattle.version_2.specs.Version2.{phys_of}
use borrow.Author.Rules.{rules}
use Rattle.version_2.proofs.phys_of.Goals as goal

pub returns : goal.returns
unfolding phys_of
returns c = search rules
