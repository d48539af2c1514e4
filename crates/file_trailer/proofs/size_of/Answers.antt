-- `file_trailer::size_of` meets its contract.
use Rattle.file_trailer.specs.Trailer.{size_of}
use borrow.Author.Rules.{rules}
use Rattle.file_trailer.proofs.size_of.Goals as goal

pub returns : goal.returns
unfolding size_of
returns c = search rules
