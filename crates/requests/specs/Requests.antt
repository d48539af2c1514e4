-- "SMP": what every request and response has. "Below, M is the request's length and L its byte 3."
use Rattle.std.specs.Prelude.{◌≡◌, Bool, false, cond, Option, Some, None, List, [], ◌∷◌, ◌++◌, ℕ, zero, suc, ◌+◌, ◌*◌, ◌/◌, ◌%◌, ◌≤◌, ◌<◌, length, drop}
use Rattle.wire.specs.declared.ZoneGroup.{ZoneGroup}
use Rattle.wire.specs.Groups.{outside_group}
use Rattle.permit.specs.Permission.{reaches, Table}
use Rattle.tables.specs.Phys.{phy_record, phy_count, phy_group, participating, empty_set}

-- "The source group .. of anything arriving on a phy that is not participating, is the phy record's group. For the rest, on a participating
-- phy, it is the group carried": for SMP a byte that the caller took from the connection's OPEN, of which document 02, request 02, says that
-- "a byte above 127 is no group"
unfoldable pub smp_source : List ℕ → ℕ → ℕ → Option ZoneGroup
smp_source phys phy carried = cond (participating phys phy) (outside_group carried) (Some (record { 0 = phy_group phys phy }))

-- P(source group, b); no group reaches nothing
abbrev pub source_reaches : ℕ → List ℕ → Option ZoneGroup → ℕ → Bool
source_reaches w permissions (Some a) b = reaches w permissions a.0 b
source_reaches w permissions None b = false

-- "A caller may change zoning exactly if P(source group, 2) is on"
unfoldable pub right : ℕ → List ℕ → List ℕ → ℕ → ℕ → Bool
right w phys permissions phy carried = source_reaches w permissions (smp_source phys phy carried) 2

-- what a rule gives: its result, the response's bytes after the first four, the phy set, and both tables
pub record Reply : Type 0 where
  pub result : ℕ
  pub rest : List ℕ
  pub set : List ℕ
  pub phys : List ℕ
  pub permissions : List ℕ

-- "When the result isn't 00h it is four bytes with length 0, the set is zero and no table changes."
abbrev pub turned_down : ℕ → List ℕ → List ℕ → Reply
turned_down result phys permissions =
    record { result = result; rest = []; set = empty_set; phys = phys; permissions = permissions }

-- a rule whose checks answer `result`: accepted at 00h, else turned down
unfoldable pub replied : ℕ → Reply → List ℕ → List ℕ → Reply
replied zero accepted phys permissions = accepted
replied (suc n) accepted phys permissions = turned_down (suc n) phys permissions

-- "The response starts 41h, the request's function byte, result, length in dwords."
abbrev pub response_of : ℕ → Reply → List ℕ
response_of function p = 0x41 ∷ function ∷ p.result ∷ length p.rest / 4 ∷ p.rest

-- what a rule's function may build on: right sizes, an arriving phy in the table, and room
pub record Lent (w : ℕ) (phys permissions : List ℕ) (phy request_size response_size set_size : ℕ) : Type 0 where
  pub records : length phys % phy_record ≡ 0
  pub most : length phys ≤ 128 * phy_record
  pub table : Table w permissions
  pub there : phy < phy_count phys
  pub head : 4 ≤ request_size
  pub response_room : 1020 ≤ response_size
  pub set_room : 16 ≤ set_size

-- what a rule's function leaves: its result and how many response bytes it wrote, both tables, the response buffer and the phy set,
-- where `response` and `set` were handed in. "output bytes beyond those named stay unchanged"
pub record Leaves (function : ℕ) (p : Reply) (response set : List ℕ) (result written : ℕ) (phys₁ permissions₁ response₁ set₁ : List ℕ) : Type 0 where
  pub answered : result ≡ p.result
  pub counted : written ≡ 4 + length p.rest
  pub phys_then : phys₁ ≡ p.phys
  pub permissions_then : permissions₁ ≡ p.permissions
  pub responded : response₁ ≡ response_of function p ++ drop (4 + length p.rest) response
  pub told : set₁ ≡ p.set ++ drop 16 set
