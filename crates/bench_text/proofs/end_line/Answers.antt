-- `bench_text::end_line` meets its contract.
use Rattle.std.proofs.Common.{rules, arith}
use Rattle.bench_text.proofs.RunLaws.{end_none, end_cut}
use Rattle.bench_text.proofs.end_line.Goals as goal

pub returns-then-is_empty : goal.returns-then-is_empty
returns-then-is_empty c = end_none _ _ _ (search rules)

pub returns : goal.returns
returns c = end_cut _ _ _ _ _ (search rules) (omega arith) c.cut_line.ensures
