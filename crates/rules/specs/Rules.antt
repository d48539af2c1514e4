-- "SMP": "After the refusals, the function byte picks one of three rules; any other byte answers 01h."; document 02, request 03, adds a fourth:
-- "DISCOVER, function 10h".
use Rattle.std.specs.Prelude.{cond, List, ℕ, ◌/◌, eqb, length, get_or}
use Rattle.requests.specs.Requests.{Reply, turned_down}
use Rattle.phy_zone.specs.PhyZone.{phy_zone_reply}
use Rattle.zone_permission.specs.ZonePermission.{permission_reply}
use Rattle.zone_report.specs.ZoneReport.{report_reply}
use Rattle.discover.specs.declared.Changes.{Changes}
use Rattle.discover.specs.Discover.{discover_reply}

-- a request's function byte
abbrev pub function_of : List ℕ → ℕ
function_of request = get_or request 1 0

-- "the function byte picks one of three rules", with DISCOVER four; "any other byte answers 01h"
unfoldable pub smp_reply : ℕ → List ℕ → List ℕ → ℕ → ℕ → Changes → List ℕ → Reply
smp_reply w phys permissions phy carried changes request =
    cond (eqb (function_of request) 0x93) (phy_zone_reply w phys permissions phy carried request)
    (cond (eqb (function_of request) 0xc1) (permission_reply w phys permissions phy carried request)
    (cond (eqb (function_of request) 0x51) (report_reply w phys permissions phy carried request)
    (cond (eqb (function_of request) 0x10) (discover_reply w phys permissions phy carried changes request)
    (turned_down 0x01 phys permissions))))

-- "a response whose length field would pass 255"
unfoldable pub length_field : ℕ → List ℕ → List ℕ → ℕ → ℕ → Changes → List ℕ → ℕ
length_field w phys permissions phy carried changes request = length (smp_reply w phys permissions phy carried changes request).rest / 4
