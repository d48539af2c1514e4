-- What the inner functions ask and do. w is the permission table's row width in bytes.
use Rattle.std.specs.Prelude.{◌≡◌, List, ◌++◌, ℕ, ◌≤◌, length, drop}
use Rattle.wire.specs.PhySet.{phys_in}
use Rattle.told_set.specs.ToldSet.{told_set}
use Rattle.told_set.specs.Inner.{Shelf}
use Rattle.broadcasts.specs.Broadcasts.{frame_of}

-- where nothing is refused there is room too
pub record Lent (w : ℕ) (phys permissions : List ℕ) (phy : ℕ) (set frame : List ℕ) : Type 0 where
  pub shelf : Shelf w phys permissions phy
  pub set_room : 16 ≤ length set
  pub frame_room : 28 ≤ length frame

-- the count, the phy set and the frame buffer at exit
pub record Announced (w : ℕ) (phys permissions : List ℕ) (phy source number : ℕ) (set frame : List ℕ) (count : ℕ) (set₁ frame₁ : List ℕ) : Type 0 where
  pub counted : count ≡ phys_in (told_set w phys permissions phy source)
  pub told : set₁ ≡ told_set w phys permissions phy source ++ drop 16 set
  pub framed : frame₁ ≡ frame_of number source ++ drop 28 frame
