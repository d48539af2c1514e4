-- `file_pairs::put_pair` meets its contract.
use native.Mathlib.Omega.{arith}
use lib.ListN.{length-set}
use Rattle.file_pairs.proofs.Writes.{pair_none, pair_two, pair_put}
use borrow.Author.Rules.{rules}
use Rattle.file_pairs.proofs.put_pair.Goals as goal

pub returns-then-not-permitted : goal.returns-then-not-permitted
returns-then-not-permitted c = search pair_none

pub bounds-file-at : goal.bounds-file-at
bounds-file-at c = let h = pair_two _ _ _ _ _ c.permitted.ensures (search rules) (search rules) (search rules) in omega arith

pub bounds-file-at-2 : goal.bounds-file-at-2
bounds-file-at-2 c = let h = pair_two _ _ _ _ _ c.permitted.ensures (search rules) (search rules) (search rules) in simp length-set (omega arith)

pub returns : goal.returns
returns c = search pair_put
