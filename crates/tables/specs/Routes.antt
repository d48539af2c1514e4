-- "Route table: 0 to 1,024 records of 12 bytes. Bytes 0-7 address; 8 phy; 9 group, low 7 bits; 10 bits 3..0 priority; 11 zero."
-- Document 02, request 02, of byte 9: "a byte above 127 is no group".
use Rattle.std.specs.Prelude.{Bool, ◌&&◌, List, ℕ, ◌+◌, ◌*◌, ◌/◌, ◌%◌, eqb, leb, length, get_or, Option}
use Rattle.wire.specs.declared.ZoneGroup.{ZoneGroup}
use Rattle.wire.specs.Groups.{outside_group}
use Rattle.wire.specs.Address.{address_at}

abbrev pub route_record : ℕ
route_record = 12

abbrev pub route_count : List ℕ → ℕ
route_count routes = length routes / route_record

-- "0 to 1,024 records"
unfoldable pub routes_sized : List ℕ → Bool
routes_sized routes = eqb (length routes % route_record) 0 && leb (length routes) (1024 * route_record)

abbrev pub route_byte : List ℕ → ℕ → ℕ → ℕ
route_byte routes i k = get_or routes (route_record * i + k) 0

abbrev pub route_address : List ℕ → ℕ → ℕ
route_address routes i = address_at routes (route_record * i)

abbrev pub route_phy : List ℕ → ℕ → ℕ
route_phy routes i = route_byte routes i 8

abbrev pub route_group : List ℕ → ℕ → Option ZoneGroup
route_group routes i = outside_group (route_byte routes i 9)

abbrev pub route_priority : List ℕ → ℕ → ℕ
route_priority routes i = route_byte routes i 10 % 16
