-- `exports::put_line` meets its contract.
use Rattle.exports.proofs.ExportLaws.{field_some, line_room, line_room_2, line_room_3, line-put}
use Rattle.exports.proofs.put_line.Goals as goal

pub put_field-i-requires : goal.put_field-i-requires
put_field-i-requires c = search line_room

pub put_field-j-requires : goal.put_field-j-requires
put_field-j-requires c = search line_room_2

pub overflow_sub-j : goal.overflow_sub-j
overflow_sub-j c = search field_some

pub put_end-requires : goal.put_end-requires
put_end-requires c = search line_room_3

pub returns : goal.returns
returns c = search line-put
