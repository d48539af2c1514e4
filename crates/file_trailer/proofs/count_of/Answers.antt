-- `file_trailer::count_of` meets its contract.
use Rattle.file_trailer.specs.Trailer.{count_of}
use borrow.Author.Rules.{rules}
use Rattle.file_trailer.proofs.count_of.Goals as goal

pub returns : goal.returns
unfolding count_of
returns c = search rules
