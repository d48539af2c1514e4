-- `requests::smp_source` meets its contract.
use Rattle.requests.proofs.RequestLaws.{source_carried, source_own}
use Rattle.requests.proofs.smp_source.Goals as goal

pub returns-then-is_participating : goal.returns-then-is_participating
returns-then-is_participating c = search source_carried

pub returns : goal.returns
returns c = search source_own
