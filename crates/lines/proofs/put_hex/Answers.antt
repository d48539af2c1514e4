-- `lines::put_hex` meets its contract.
use lib.ListN.{length-set}
use Rattle.lines.proofs.Lines.{hex_done}
use native.Mathlib.Omega.{arith}
use Rattle.lines.proofs.put_hex.Goals as goal

pub bounds-text-at-2 : goal.bounds-text-at-2
bounds-text-at-2 c = simp length-set (omega arith)

pub returns : goal.returns
returns c = search hex_done
