-- `version_1::write_file` meets its contract.
use Rattle.version_1.proofs.Saves.{pairs_ready, count_fits, size_adds, size_fits, trailer_room, file_put}
use native.Mathlib.Omega.{arith}
use borrow.Author.Rules.{rules}
use Rattle.version_1.proofs.write_file.Goals as goal

pub put_pairs-end-requires : goal.put_pairs-end-requires
put_pairs-end-requires c = pairs_ready _ _ _ (search rules) (omega arith)

pub overflow_cast-end : goal.overflow_cast-end
overflow_cast-end c = search count_fits

pub overflow_add-end : goal.overflow_add-end
overflow_add-end c = search size_adds

pub overflow_cast-end-2 : goal.overflow_cast-end-2
overflow_cast-end-2 c = search size_fits

pub put_trailer-requires : goal.put_trailer-requires
put_trailer-requires c = search trailer_room

pub returns : goal.returns
returns c = search file_put
