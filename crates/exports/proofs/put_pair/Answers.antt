-- `exports::put_pair` meets its contract.
use Rattle.exports.proofs.ExportLaws.{group_most, pair_room, pair_line, pair_none}
use Rattle.exports.proofs.put_pair.Goals as goal

pub put_line-requires : goal.put_line-requires
put_line-requires c = search (group_most, pair_room)

pub returns-then-permitted : goal.returns-then-permitted
returns-then-permitted c = search pair_line

pub returns : goal.returns
returns c = search pair_none
