-- `searches::search` meets its contract.
use Rattle.searches.proofs.SearchLaws.{search_zero, search-first, search_second}
use Rattle.searches.proofs.search.Goals as goal

pub returns-then-is_zero_address : goal.returns-then-is_zero_address
returns-then-is_zero_address c = search search_zero

pub returns-in_default : goal.returns-in_default
returns-in_default c = search search_second

pub returns : goal.returns
returns c = search search-first
