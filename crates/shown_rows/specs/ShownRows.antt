-- "Reports show P in document 01's rows."
use Rattle.std.specs.Prelude.{ℕ, ◌-◌, ◌*◌, ◌/◌, ◌%◌, List}
use Rattle.wire.specs.Bits.{tab}
use Rattle.wire.specs.PhySet.{set_byte}
use Rattle.permit.specs.Permission.{reaches}

-- byte i of document 01's table that says of every two groups what t says
unfoldable pub shown_byte : ℕ → List ℕ → ℕ → ℕ
shown_byte w t i = set_byte (reaches w t (i / 16)) (15 - i % 16)

-- its count rows from start on
unfoldable pub shown_rows : ℕ → List ℕ → ℕ → ℕ → List ℕ
shown_rows w t start count = tab (shown_byte w t) (16 * start) (16 * count)
