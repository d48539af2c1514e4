-- "SMP": the refusals, and what a request's call gives.
use Rattle.std.specs.Prelude.{Bool, true, cond, Result, ◌&&◌, List, [], ◌∷◌, ◌++◌, ℕ, ◌+◌, eqb, leb, length, get_or, drop}
use Rattle.wire.specs.Groups.{is_group}
use Rattle.wire.specs.PhySet.{phys_in}
use Rattle.permit.specs.Permission.{permissions_sized}
use Rattle.permit.specs.Orders.{Order}
use Rattle.tables.specs.Refusals.{Check, refuse, below, differ, off, first_refusal}
use Rattle.tables.specs.Outcome.{Answer, Out, outcome}
use Rattle.tables.specs.Numbers.{answered}
use Rattle.tables.specs.declared.refusal.Refusal.{Refusal}
use Rattle.tables.specs.Arrival.{arrival_checks}
use Rattle.requests.specs.Results.{number}
use Rattle.requests.specs.Requests.{smp_source, Reply, response_of}
use Rattle.zone_permission.specs.ZonePermission.{orders_of}
use Rattle.discover.specs.declared.Changes.{Changes}
use Rattle.rules.specs.Rules.{function_of, smp_reply, length_field}
use Rattle.smp.specs.declared.Answered.{Answered}

-- the answer in document 01's numbers: result, response bytes, phys told
abbrev pub answered_as : Result Answered Refusal → Answer
answered_as = answered (λ a. number a.result ∷ a.length ∷ a.told ∷ [])

-- "response buffer under 1,020 bytes, phy set under 16": whether there is room for both
abbrev pub room_for : List ℕ → List ℕ → Bool
room_for response set = leb 1020 (length response) && leb 16 (length set)

-- 4 ("SMP under 4"), 5 ("SMP byte 0 not 40h"); document 02, request 02: a carried byte above 127, "on a participating phy, is refusal 5, after
-- the present causes of 5"
abbrev pub request_checks : List ℕ → ℕ → ℕ → List ℕ → List Check
request_checks phys phy carried request =
    refuse 4 (below (length request) 4)
    ∷ refuse 5 (differ (get_or request 0 0) 0x40)
    ∷ refuse 5 (off (is_group (smp_source phys phy carried)))
    ∷ []

-- refusals 1, 2, 3, 7, then 4 and 5, and 8
abbrev pub smp_checks : ℕ → List ℕ → List ℕ → ℕ → ℕ → Changes → List ℕ → Bool → List Check
smp_checks w phys permissions phy carried changes request room =
    arrival_checks phys phy (permissions_sized w permissions) room true
    ++ (request_checks phys phy carried request ++ refuse 8 (below 255 (length_field w phys permissions phy carried changes request)) ∷ [])

-- what a reply leaves of the call: its values, and the buffers: phy table, permission table, response, phy set
abbrev pub values_of : Reply → List ℕ
values_of p = p.result ∷ (4 + length p.rest) ∷ phys_in p.set ∷ []

abbrev pub buffers_of : ℕ → Reply → List ℕ → List ℕ → List (List ℕ)
buffers_of function p response set =
    p.phys ∷ p.permissions ∷ (response_of function p ++ drop (4 + length p.rest) response) ∷ (p.set ++ drop 16 set) ∷ []

abbrev pub smp_out : ℕ → List ℕ → List ℕ → ℕ → ℕ → Changes → List ℕ → List ℕ → List ℕ → Out
smp_out w phys permissions phy carried changes request response set =
    outcome (first_refusal (smp_checks w phys permissions phy carried changes request (room_for response set)))
    (values_of (smp_reply w phys permissions phy carried changes request))
    (phys ∷ permissions ∷ response ∷ set ∷ [])
    (buffers_of (function_of request) (smp_reply w phys permissions phy carried changes request) response set)

-- the orders that a request's call accepted: none unless it was answered 00h with C1h
unfoldable pub accepted_orders : ℕ → List ℕ → List ℕ → ℕ → ℕ → Changes → List ℕ → Bool → List Order
accepted_orders w phys permissions phy carried changes request room =
    cond (eqb (first_refusal (smp_checks w phys permissions phy carried changes request room)) 0
    && (eqb (function_of request) 0xc1 && eqb (smp_reply w phys permissions phy carried changes request).result 0x00))
    (orders_of w request)
    []
