-- `window::keep` meets its contract.
use Rattle.window.proofs.KeepLaws.{copied}
use Rattle.window.proofs.keep.Goals as goal

pub returns : goal.returns
returns c = search copied
