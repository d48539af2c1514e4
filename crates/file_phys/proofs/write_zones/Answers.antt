-- `file_phys::write_zones` meets its contract.
use Rattle.std.proofs.Common.{◌∙◌, arith}
use Rattle.file_phys.proofs.BlockLaws.{rezoned-ready, rezoned_again, rezoned_end}
use Rattle.file_phys.proofs.write_zones.Goals as goal

pub write_zone-requires : goal.write_zone-requires
write_zone-requires c =
    let i = c.loop-entry.invariant in
    let s = c.in-Some.ensures.steps in
    rezoned-ready _ _ _ _ i.3 _ _ s.1.0 (s.1.1 ∙ i.2)

pub loop-entry-preserved : goal.loop-entry-preserved
loop-entry-preserved c =
    let i = c.loop-entry.invariant in
    let s = c.in-Some.ensures.steps in
    let three = s.0 ∙ i.2 in
    (omega arith, tt, three, rezoned_again _ _ _ _ i.3 _ _ s.1.0 (s.1.1 ∙ i.2) _ c.write_zone.ensures)

pub returns : goal.returns
returns c =
    let i = c.loop-entry.invariant in
    let three = i.2 in
    let short = c.in-None.ensures.steps.1.0 in
    rezoned_end _ _ _ _ i.3 (omega arith)
