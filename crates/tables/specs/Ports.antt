-- Ports: which phys lead to the same neighbour.
use Rattle.std.specs.Prelude.{Bool, not, ◌&&◌, ◌||◌, List, ℕ, eqb}
use Rattle.tables.specs.Phys.{ready, phy_address}

-- "A port is from now on all ready phys with the same attached address; a phy with address zero is a port by itself."
unfoldable pub same_port : List ℕ → ℕ → ℕ → Bool
same_port phys i j =
    eqb i j
    || ((ready phys i && ready phys j) && (not (eqb (phy_address phys i) 0) && eqb (phy_address phys i) (phy_address phys j)))
