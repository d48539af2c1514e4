-- "Broadcasts": which phys an incoming broadcast goes to. w is the permission table's row width in bytes.
use Rattle.std.specs.Prelude.{Bool, not, ◌&&◌, List, ℕ}
use Rattle.wire.specs.PhySet.{some, set_of}
use Rattle.permit.specs.Permission.{reaches}
use Rattle.tables.specs.Phys.{phy_group, ready}
use Rattle.tables.specs.Ports.{same_port}

-- a permitted phy: "ready .., with P(source group, its group) on"; `reaches` is P, and says what holds for groups that the table does not hold
unfoldable pub permitted : ℕ → List ℕ → List ℕ → ℕ → ℕ → Bool
permitted w phys permissions source i = ready phys i && reaches w permissions source (phy_group phys i)

-- phy j, which may be phy i itself, is a permitted phy of phy i's port
unfoldable pub permitted_in_port : ℕ → List ℕ → List ℕ → ℕ → ℕ → ℕ → Bool
permitted_in_port w phys permissions source i j = permitted w phys permissions source j && same_port phys i j

-- "A set for an incoming broadcast leaves out that port" (the arriving phy's) "and names only the lowest permitted phy of each other port."
unfoldable pub told : ℕ → List ℕ → List ℕ → ℕ → ℕ → ℕ → Bool
told w phys permissions phy source i =
    permitted w phys permissions source i && (not (same_port phys phy i) && not (some (permitted_in_port w phys permissions source i) i))

unfoldable pub told_set : ℕ → List ℕ → List ℕ → ℕ → ℕ → List ℕ
told_set w phys permissions phy source = set_of (told w phys permissions phy source)
