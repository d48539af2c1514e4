-- `requests::has_right` meets its contract.
use Rattle.requests.specs.Requests.{right}
use borrow.Author.Rules.{rules}
use Rattle.requests.proofs.has_right.Goals as goal

pub returns : goal.returns
unfolding right
returns c = search rules
