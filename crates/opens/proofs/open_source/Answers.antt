-- `opens::open_source` meets its contract.
use Rattle.opens.proofs.OpenSteps.{source_carried, source_own}
use Rattle.opens.proofs.open_source.Goals as goal

pub returns-then-not-is_participating : goal.returns-then-not-is_participating
returns-then-not-is_participating c = search source_own

pub returns : goal.returns
returns c = search source_carried
