-- `file_trailer::offset_of` meets its contract.
use Rattle.file_trailer.specs.Trailer.{offset_of}
use borrow.Author.Rules.{rules}
use Rattle.file_trailer.proofs.offset_of.Goals as goal

pub returns : goal.returns
unfolding offset_of
returns c = search rules
