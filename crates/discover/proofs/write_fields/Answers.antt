-- `discover::write_fields` meets its contract.
use Rattle.discover.proofs.DiscoverLaws.{fields_stored}
use Rattle.discover.proofs.write_fields.Goals as goal

pub returns : goal.returns
returns c = search fields_stored
