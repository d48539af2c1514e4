-- `version_1::are_pairs_ascending` meets its contract.
use Rattle.version_1.proofs.Loads.{slice_even, slice_judged}
use borrow.Author.Rules.{rules}
use Rattle.version_1.proofs.are_pairs_ascending.Goals as goal

pub is_ascending-requires : goal.is_ascending-requires
is_ascending-requires c = search (rules, slice_even)

pub returns : goal.returns
returns c = search slice_judged
