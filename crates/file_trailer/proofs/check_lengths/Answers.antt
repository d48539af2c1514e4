-- `file_trailer::check_lengths` meets its contract.
use Rattle.file_trailer.proofs.Trailers.{lengths_size, lengths_count, lengths_offset, lengths_agree}
use Rattle.file_trailer.proofs.check_lengths.Goals as goal

pub returns-then-size_of-file : goal.returns-then-size_of-file
returns-then-size_of-file c = search lengths_size

pub returns-then-count_of-beside : goal.returns-then-count_of-beside
returns-then-count_of-beside c = search lengths_count

pub returns-then-offset_of-ne0 : goal.returns-then-offset_of-ne0
returns-then-offset_of-ne0 c = search lengths_offset

pub returns : goal.returns
returns c = search lengths_agree
