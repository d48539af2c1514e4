-- `file_trailer::version_of` meets its contract.
use Rattle.file_trailer.specs.Trailer.{version_of}
use borrow.Author.Rules.{rules}
use Rattle.file_trailer.proofs.version_of.Goals as goal

pub returns : goal.returns
unfolding version_of
returns c = search rules
