-- Group bytes.
use Rattle.std.specs.Prelude.{Bool, true, false, cond, ℕ, ◌%◌, ltb, Option, Some, None}
use Rattle.wire.specs.declared.ZoneGroup.{ZoneGroup}

-- "Byte 1: group, low 7 bits." "in an OPEN the low 7 bits of byte 20"
abbrev pub group_of : ℕ → ℕ
group_of b = b % 128

-- document 02, request 02: "a byte above 127 is no group, and every caller must act on it: the carried SMP group, byte 3 of a broadcast
-- frame, byte 9 of a route record"
unfoldable pub outside_group : ℕ → Option ZoneGroup
outside_group b = cond (ltb 127 b) None (Some (record { 0 = b }))

-- whether it is one
abbrev pub is_group : Option ZoneGroup → Bool
is_group (Some g) = true
is_group None = false
