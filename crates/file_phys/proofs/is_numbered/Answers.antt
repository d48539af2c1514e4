-- `file_phys::is_numbered` meets its contract.
use Rattle.std.proofs.Common.{◌∙◌, arith}
use Rattle.file_phys.proofs.BlockLaws.{counted_below, counted_above, counted_again, counted_end}
use Rattle.file_phys.proofs.is_numbered.Goals as goal

pub returns-then-phy-low : goal.returns-then-phy-low
returns-then-phy-low c =
    let i = c.loop-entry.invariant in
    let s = c.in-Some.ensures.steps in
    counted_below _ _ _ _ i.3 _ _ s.1.0 (s.1.1 ∙ i.2) c.if-phy-low.true

pub returns-then-count-phy : goal.returns-then-count-phy
returns-then-count-phy c =
    let i = c.loop-entry.invariant in
    let s = c.in-Some.ensures.steps in
    counted_above _ _ _ _ i.3 _ _ s.1.0 (s.1.1 ∙ i.2) c.if-phy-low.false c.if-count-phy.true

pub loop-entry-preserved : goal.loop-entry-preserved
loop-entry-preserved c =
    let i = c.loop-entry.invariant in
    let s = c.in-Some.ensures.steps in
    let three = s.0 ∙ i.2 in
    (omega arith, tt, three, counted_again _ _ _ _ i.3 _ _ s.1.0 (s.1.1 ∙ i.2) c.if-phy-low.false c.if-count-phy.false)

pub returns : goal.returns
returns c =
    let i = c.loop-entry.invariant in
    let three = i.2 in
    let short = c.in-None.ensures.steps.1.0 in
    counted_end _ _ _ _ i.3 (omega arith)
