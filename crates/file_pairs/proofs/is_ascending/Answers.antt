-- `file_pairs::is_ascending` meets its contract.
use Rattle.std.proofs.Common.{◌∙◌, arith}
use Rattle.file_pairs.proofs.Records.{judged_again, judged_end}
use Rattle.file_pairs.proofs.is_ascending.Goals as goal

pub loop-record-preserved : goal.loop-record-preserved
loop-record-preserved c =
    let i = c.loop-record.invariant in
    let s = c.in-Some.ensures.steps in
    let two = s.0 ∙ i.2 in
    (omega arith, tt, two, judged_again _ _ _ _ _ i.3 _ _ _ _ s.1.0 (s.1.1 ∙ i.2) c.is_in_place-good.ensures c.code-low.ensures.0)

pub returns : goal.returns
returns c =
    let i = c.loop-record.invariant in
    let two = i.2 in
    let short = c.in-None.ensures.steps.1.0 in
    judged_end _ _ _ _ _ i.3 (omega arith)
