-- `version_1::check_pairs` meets its contract.
use Rattle.file_trailer.proofs.Trailers.{lengths_front}
use Rattle.version_1.proofs.Loads.{lengths_hold, pairs_refused, pairs_taken}
use borrow.Author.Rules.{rules}
use Rattle.version_1.proofs.check_pairs.Goals as goal

pub returns-in_err-check_lengths : goal.returns-in_err-check_lengths
returns-in_err-check_lengths c = lengths_front _ _ _ _ _ c.from_residual.ensures.1 c.in_err-check_lengths.ensures

pub are_pairs_ascending-requires : goal.are_pairs_ascending-requires
are_pairs_ascending-requires c = search (rules, lengths_hold, c.in_ok-check_lengths.ensures)

pub returns-then-not-are_pairs_ascending : goal.returns-then-not-are_pairs_ascending
returns-then-not-are_pairs_ascending c = search (pairs_refused, c.in_ok-check_lengths.ensures)

pub returns : goal.returns
returns c = search (pairs_taken, c.in_ok-check_lengths.ensures)
