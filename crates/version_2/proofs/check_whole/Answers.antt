-- `version_2::check_whole` meets its contract.
use Rattle.version_2.proofs.WholeLoads.{whole_short, whole_lengths, whole_measured, whole_block}
use borrow.Author.Rules.{rules}
use Rattle.version_2.proofs.check_whole.Goals as goal

pub returns-then-file-lt-WHOLE_TRAILER : goal.returns-then-file-lt-WHOLE_TRAILER
returns-then-file-lt-WHOLE_TRAILER c = search whole_short

pub returns-in_err-check_lengths : goal.returns-in_err-check_lengths
returns-in_err-check_lengths c = whole_lengths _ c.if-file-lt-WHOLE_TRAILER.false _ c.phys_of.ensures.0 _ _ _ _ c.from_residual.ensures.1 c.in_err-check_lengths.ensures

pub check_block-requires : goal.check_block-requires
check_block-requires c = search (rules, whole_measured, c.in_ok-check_lengths.ensures)

pub returns : goal.returns
returns c = search (whole_block, c.in_ok-check_lengths.ensures)
