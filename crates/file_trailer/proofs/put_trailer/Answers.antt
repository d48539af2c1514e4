-- `file_trailer::put_trailer` meets its contract.
use Rattle.file_trailer.proofs.Trailers.{trailer-put}
use Rattle.file_trailer.proofs.put_trailer.Goals as goal

pub returns : goal.returns
returns c = search trailer-put
