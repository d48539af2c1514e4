-- `file_pairs::switch_on` meets its contract.
use Rattle.std.proofs.Common.{◌∙◌, arith}
use Rattle.file_pairs.proofs.Records.{switch-ready, switched_again, switched_end}
use Rattle.file_pairs.proofs.switch_on.Goals as goal

pub write_both-requires : goal.write_both-requires
write_both-requires c =
    let i = c.loop-record.invariant in
    let s = c.in-Some.ensures.steps in
    switch-ready _ _ _ _ _ i.3 _ _ s.1.0 (s.1.1 ∙ i.2)

pub loop-record-preserved : goal.loop-record-preserved
loop-record-preserved c =
    let i = c.loop-record.invariant in
    let s = c.in-Some.ensures.steps in
    let two = s.0 ∙ i.2 in
    (omega arith, tt, two, switched_again _ _ _ _ _ i.3 _ _ s.1.0 (s.1.1 ∙ i.2) _ c.write_both.ensures)

pub returns : goal.returns
returns c =
    let i = c.loop-record.invariant in
    let two = i.2 in
    let short = c.in-None.ensures.steps.1.0 in
    switched_end _ _ _ _ _ i.3 (omega arith)
