-- Request 06: what is promised of the console, of document 01's shelf and of the small one. The proofs are in proofs/.
use Rattle.std.specs.Prelude.{◌≡◌, Bool, true, false, cond, List, [], ◌∷◌, ◌++◌, ◌⊎◌, ℕ, ◌+◌, ◌*◌, ◌≤◌, ◌<◌, eqb, length, get_or, take, drop, replicate, Result}
use Rattle.wire.specs.Bits.{num, tab}
use Rattle.permit.specs.Permission.{groups, P, reaches}
use Rattle.tables.specs.Refusals.{first_refusal}
use Rattle.tables.specs.Outcome.{answer, Out, out}
use Rattle.tables.specs.Phys.{phy_count, participating, phy_priority, phy_group}
use Rattle.requests.specs.Requests.{Reply, response_of}
use Rattle.zone_report.specs.ZoneReport.{row_count, start_row}
use Rattle.discover.specs.declared.Changes.{Changes}
use Rattle.rules.specs.Rules.{function_of, smp_reply}
use Rattle.smp.specs.Smp.{room_for, smp_checks, values_of, buffers_of, smp_out, accepted_orders}
use Rattle.console_orders.specs.declared.Refusal.{Refusal}
use Rattle.console_orders.specs.Building.{built_as, single_request, report_request}
use Rattle.console_rows.specs.Batches.{batch_request}
use Rattle.console_zones.specs.Zones.{entry_count, takes_part, priority_at, group_at, phy_zones_request}
use Rattle.console_reading.specs.declared.Heard.{Heard}
use Rattle.console_reading.specs.Reading.{heard_as, head_checks, unpacked, heard, rows_then, read_out}
use Rattle.console.specs.Asks.{Ask, zones, checks_of, request_of, orders_named, chosen_zones, result_named, named, Rightful}

-- "What it builds, the library must read as the same order, for 0 to 128 phys or 0 to 63 rows": for every request that is not refused, of any
-- size, the whole outcome of `smp` lent that request by a caller with the right is what the choices name; and so are the orders that the
-- history counts as accepted
abbrev pub SameOrder : Type 0
SameOrder =
    (ask : Ask) (given : ℕ) → first_refusal (checks_of given ask) ≡ 0
    → (w : ℕ) (phys permissions : List ℕ) (phy carried : ℕ) (changes : Changes) (response set : List ℕ)
    → Rightful w phys permissions phy carried (room_for response set)
    → (smp_out w phys permissions phy carried changes (request_of ask) response set
    ≡ out (answer (values_of (named w ask phys permissions))) (buffers_of (function_of (request_of ask)) (named w ask phys permissions) response set))
    × (accepted_orders w phys permissions phy carried changes (request_of ask) (room_for response set)
    ≡ cond (eqb (result_named w (phy_count phys) ask) 0x00) (orders_named w ask) [])

-- the phy records that the choices name say of each phy what its entry says
abbrev pub SameZones : Type 0
SameZones =
    (start : ℕ) (entries : List ℕ) (given : ℕ) → first_refusal (checks_of given (zones start entries)) ≡ 0
    → (phys : List ℕ) (i : ℕ) → i < entry_count entries → start + i < phy_count phys
    → (participating (chosen_zones phys start entries 0 (entry_count entries)) (start + i) ≡ takes_part entries i)
    × (phy_priority (chosen_zones phys start entries 0 (entry_count entries)) (start + i) ≡ priority_at entries i)
    × (phy_group (chosen_zones phys start entries 0 (entry_count entries)) (start + i) ≡ group_at entries i)

-- what is built is answered 03h by no shelf, and by document 01's not 02h
abbrev pub Never : Type 0
Never =
    (ask : Ask) (given : ℕ) → first_refusal (checks_of given ask) ≡ 0
    → (w : ℕ) (phys permissions : List ℕ) (phy carried : ℕ) (changes : Changes) (room : Bool) → Rightful w phys permissions phy carried room
    → ((smp_reply w phys permissions phy carried changes (request_of ask)).result ≡ 0x03 → ⊥)
    × (w ≡ 16 → (smp_reply w phys permissions phy carried changes (request_of ask)).result ≡ 0x02 → ⊥)

-- a shelf of document 01 that answers it 02h though the caller has the right
pub record Fails02 (ask : Ask) : Type 0 where
  pub phys : List ℕ
  pub permissions : List ℕ
  pub phy : ℕ
  pub carried : ℕ
  pub changes : Changes
  pub rightful : Rightful 16 phys permissions phy carried true
  pub fails : (smp_reply 16 phys permissions phy carried changes (request_of ask)).result ≡ 0x02

-- "24 an order that document 01 answers 02h though the caller has the right": where 21 to 23 are not given, 24 is given exactly where some
-- shelf answers so
abbrev pub Exact24 : Type 0
Exact24 =
    (ask : Ask) (given : ℕ)
    → (first_refusal (checks_of given ask) ≡ 24 → Fails02 ask)
    × (first_refusal (checks_of given ask) ≡ 0 → Fails02 ask → ⊥)

-- one of the three functions
abbrev pub Ours : List ℕ → Type 0
Ours request = (function_of request ≡ 0x93) ⊎ ((function_of request ≡ 0xc1) ⊎ (function_of request ≡ 0x51))

pub record ReadBack (f : ℕ) (p : Reply) (response lent : List ℕ) : Type 0 where
  -- the console is lent the bytes that the call says it wrote
  pub wrote : take (4 + length p.rest) (response_of f p ++ drop (4 + length p.rest) response) ≡ response_of f p
  -- it reads them
  pub reads : read_out (response_of f p) lent ≡ out (answer (heard (response_of f p))) (rows_then (response_of f p) lent ∷ [])
  -- function and result as they stand
  pub says : take 2 (heard (response_of f p)) ≡ f ∷ p.result ∷ []

-- 25 is exact, one way: every response that `smp` gives to one of the three functions is read, where there is room for the rows
abbrev pub AllRead : Type 0
AllRead =
    (w : ℕ) (phys permissions : List ℕ) (phy carried : ℕ) (changes : Changes) (request response lent : List ℕ) → 8064 ≤ length lent → Ours request
    → ReadBack (function_of request) (smp_reply w phys permissions phy carried changes request) response lent

-- a request that a shelf answers with these first eight bytes and this length
pub record Got (response : List ℕ) : Type 0 where
  pub w : ℕ
  pub phys : List ℕ
  pub permissions : List ℕ
  pub phy : ℕ
  pub carried : ℕ
  pub changes : Changes
  pub request : List ℕ
  pub ours : Ours request
  pub answered : first_refusal (smp_checks w phys permissions phy carried changes request true) ≡ 0
  pub front : take 8 (response_of (function_of request) (smp_reply w phys permissions phy carried changes request)) ≡ take 8 response
  pub sized : length (response_of (function_of request) (smp_reply w phys permissions phy carried changes request)) ≡ length response

-- and the other: every head that is not refused is one that some request gets from some shelf
abbrev pub OnlyHeads : Type 0
OnlyHeads = (response : List ℕ) → first_refusal (head_checks response) ≡ 0 → Got response

-- byte j of row i of the rows read from what `smp` answers
abbrev pub read_at : ℕ → List ℕ → List ℕ → ℕ → ℕ → Changes → List ℕ → List ℕ → ℕ → ℕ → ℕ
read_at w phys permissions phy carried changes request lent i j =
    get_or (rows_then (response_of 0x51 (smp_reply w phys permissions phy carried changes request)) lent) (128 * i + j) 0

-- "What the library reports, the console must read as the same rows": the first group and how many rows; each group of each row is whether
-- the row's group reaches it; where the table holds both, as document 01's does for all, that is P
abbrev pub SameRows : Type 0
SameRows =
    (w : ℕ) (phys permissions : List ℕ) (phy carried : ℕ) (changes : Changes) (request lent : List ℕ) → function_of request ≡ 0x51
    → (smp_reply w phys permissions phy carried changes request).result ≡ 0x00
    → (heard (response_of 0x51 (smp_reply w phys permissions phy carried changes request)) ≡ 0x51 ∷ 0x00 ∷ start_row request ∷ row_count request ∷ [])
    × ((i j : ℕ) → i < row_count request → j < 128
    → read_at w phys permissions phy carried changes request lent i j ≡ num (reaches w permissions (start_row request + i) j))
    × ((i j : ℕ) → i < row_count request → j < 128 → start_row request + i < groups w → j < groups w
    → read_at w phys permissions phy carried changes request lent i j ≡ num (P w permissions (start_row request + i) j))

-- "a row's bits for groups 0 and 1 are written as given, so a reported row can be sent back": k rows as they were read, sent from any group on,
-- say of every group what the response said
abbrev pub SentBack : Type 0
SentBack =
    (response : List ℕ) (start k i j : ℕ) (complete : Bool) → i < k → j < 128
    → P 16 (drop 12 (batch_request start (tab (unpacked response) 0 (128 * k)) complete)) i j ≡ P 16 (drop 12 response) i j

-- "each function leaves one answer and one content of each buffer": two answers r and q with buffers xs and ys that meet the contract on the same
-- input, whose definition gives o, are the same; of the four that build and of the one that reads
abbrev pub ExactlyOne : Type 0
ExactlyOne =
    ((r q : Result ℕ Refusal) (xs ys : List (List ℕ)) (o : Out) → out (built_as r) xs ≡ o → out (built_as q) ys ≡ o → (r ≡ q) × (xs ≡ ys))
    × ((r q : Result Heard Refusal) (xs ys : List (List ℕ)) (o : Out) → out (heard_as r) xs ≡ o → out (heard_as q) ys ≡ o → (r ≡ q) × (xs ≡ ys))

-- worked requests: case 1 of document 01; a row with group 5 (and not 122); an odd number of phys; two phys, one participating; a report
pub record Worked : Type 0 where
  pub case1 : single_request 8 9 true true ≡ 0x40 ∷ 0xc1 ∷ 0 ∷ 0x02 ∷ 0 ∷ 0 ∷ 0x08 ∷ 0x89 ∷ 0 ∷ 0x81 ∷ 0 ∷ 0 ∷ []
  pub group5 : batch_request 8 (replicate 5 0 ++ 1 ∷ replicate 122 0) false
      ≡ 0x40 ∷ 0xc1 ∷ 0 ∷ 0x06 ∷ 0 ∷ 0 ∷ 0 ∷ 0 ∷ 0 ∷ 0x90 ∷ 0x08 ∷ 0x01
      ∷ 0 ∷ 0 ∷ 0 ∷ 0 ∷ 0 ∷ 0 ∷ 0 ∷ 0 ∷ 0 ∷ 0 ∷ 0 ∷ 0 ∷ 0 ∷ 0 ∷ 0 ∷ 0x20 ∷ []
  pub odd : phy_zones_request 7 (0 ∷ 0 ∷ 9 ∷ []) ≡ 0x40 ∷ 0x93 ∷ 0 ∷ 0x02 ∷ 0 ∷ 0 ∷ 0x07 ∷ 0x01 ∷ 0x00 ∷ 0x09 ∷ 0 ∷ 0 ∷ []
  pub part : phy_zones_request 0 (1 ∷ 15 ∷ 1 ∷ 0 ∷ 3 ∷ 8 ∷ []) ≡ 0x40 ∷ 0x93 ∷ 0 ∷ 0x02 ∷ 0 ∷ 0 ∷ 0x00 ∷ 0x02 ∷ 0x1f ∷ 0x01 ∷ 0x03 ∷ 0x08 ∷ []
  pub asks : report_request 127 5 ≡ 0x40 ∷ 0x51 ∷ 0 ∷ 0x01 ∷ 0 ∷ 0 ∷ 0x7f ∷ 0x05 ∷ []
