-- What the inner functions ask.
use Rattle.std.specs.Prelude.{List, ℕ, ◌+◌, ◌*◌, ◌≤◌, length}
use Rattle.tables.specs.Phys.{phy_record, phy_count}
use Rattle.phy_zone.specs.PhyZone.{entries, start_phy}

-- the k descriptors are there, and so are the phys from start on
pub record Fitting (phys request : List ℕ) : Type 0 where
  pub head : 8 ≤ length request
  pub described : 8 + 2 * entries request ≤ length request
  pub there : start_phy request + entries request ≤ phy_count phys
  pub most : length phys ≤ 128 * phy_record
