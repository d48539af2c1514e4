-- `lines::put_reply` meets its contract.
use Rattle.lines.proofs.Lines.{reply_done}
use Rattle.lines.proofs.put_reply.Goals as goal

pub returns : goal.returns
returns c = reply_done c.args.res _ _ _ _ _ _ _ _ _ _ _ _ _ _ _ _ c.put_bytes-a.ensures c.put_hex-b.ensures c.put_byte-c.ensures c.put_short-d.ensures c.put_byte-e.ensures c.put_decimal.ensures
