-- `version_2::write_file` meets its contract.
use native.Mathlib.Omega.{arith}
use Rattle.version_1.proofs.Saves.{pairs_ready}
use Rattle.version_2.proofs.WholeSaves.{block_room, count_fits, size_adds, size_fits, count_room, trailer_room, whole_put}
use borrow.Author.Rules.{rules}
use Rattle.version_2.proofs.write_file.Goals as goal

pub put_pairs-pairs-requires : goal.put_pairs-pairs-requires
put_pairs-pairs-requires c = pairs_ready _ _ _ (search rules) (omega arith)

pub put_phys-block-requires : goal.put_phys-block-requires
put_phys-block-requires c = search block_room

pub put_two-counted-requires : goal.put_two-counted-requires
put_two-counted-requires c = search count_room

pub overflow_cast-pairs : goal.overflow_cast-pairs
overflow_cast-pairs c = search count_fits

pub overflow_add-pairs : goal.overflow_add-pairs
overflow_add-pairs c = search size_adds

pub overflow_cast-pairs-2 : goal.overflow_cast-pairs-2
overflow_cast-pairs-2 c = search size_fits

pub put_trailer-requires : goal.put_trailer-requires
put_trailer-requires c = search trailer_room

pub returns : goal.returns
returns c = search whole_put
