-- "Phy table: 1 to 128 records"; document 02, request 03: "The phy record grows to 16 bytes". Reserved bits are ignored when read and written as zero.
use Rattle.std.specs.Prelude.{Bool, ◌&&◌, List, ℕ, ◌+◌, ◌*◌, ◌/◌, ◌%◌, eqb, leb, length, get_or, set, replicate}
use Rattle.wire.specs.Groups.{group_of}
use Rattle.wire.specs.Address.{address_at}
use Rattle.wire.specs.PhySet.{set_of}

-- the bytes of a record
abbrev pub phy_record : ℕ
phy_record = 16

abbrev pub phy_count : List ℕ → ℕ
phy_count phys = length phys / phy_record

-- "1 to 128 records"
unfoldable pub phys_sized : List ℕ → Bool
phys_sized phys = (eqb (length phys % phy_record) 0 && leb phy_record (length phys)) && leb (length phys) (128 * phy_record)

-- byte k of phy i's record
abbrev pub phy_byte : List ℕ → ℕ → ℕ → ℕ
phy_byte phys i k = get_or phys (phy_record * i + k) 0

-- "Byte 0: bit 4 ZONE PARTICIPATING, bits 3..0 supervising priority."
abbrev pub participating : List ℕ → ℕ → Bool
participating phys i = eqb (phy_byte phys i 0 / 16 % 2) 1

abbrev pub phy_priority : List ℕ → ℕ → ℕ
phy_priority phys i = phy_byte phys i 0 % 16

-- "Byte 1: group, low 7 bits."
abbrev pub phy_group : List ℕ → ℕ → ℕ
phy_group phys i = group_of (phy_byte phys i 1)

-- "Byte 2: bit 0 ready, bit 1 address known."
abbrev pub ready : List ℕ → ℕ → Bool
ready phys i = eqb (phy_byte phys i 2 % 2) 1

abbrev pub known : List ℕ → ℕ → Bool
known phys i = eqb (phy_byte phys i 2 / 2 % 2) 1

-- "Bytes 4-11: attached SAS address, big-endian."
abbrev pub phy_address : List ℕ → ℕ → ℕ
phy_address phys i = address_at phys (phy_record * i + 4)

-- document 02, request 03: "12 device type, 13 attached phy, 14 and 15 zero"; "(the type's low 3 bits)"
abbrev pub device_type : List ℕ → ℕ → ℕ
device_type phys i = phy_byte phys i 12 % 8

abbrev pub attached_phy : List ℕ → ℕ → ℕ
attached_phy phys i = phy_byte phys i 13

-- "all ready phys"
unfoldable pub ready_set : List ℕ → List ℕ
ready_set phys = set_of (ready phys)

-- "Set empty." "the set is zero"
unfoldable pub empty_set : List ℕ
empty_set = replicate 16 0

-- "bytes 0 and 1 .. are written, reserved bits zero"
unfoldable pub zoned : List ℕ → ℕ → ℕ → ℕ → List ℕ
zoned phys i b0 b1 = set (set phys (phy_record * i) (b0 % 32)) (phy_record * i + 1) (b1 % 128)
