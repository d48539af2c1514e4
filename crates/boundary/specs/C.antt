-- What C gets. Document 01's outcomes in the fields of include/shelf.h and include/small.h; the quotes are of those headers.
use Rattle.std.specs.Prelude.{◌≡◌, Bool, true, ◌&&◌, Result, Ok, Err, List, [], ◌∷◌, ◌++◌, ℕ, zero, suc, leb, length}
use Rattle.wire.specs.Address.{address_at}
use Rattle.permit.specs.Permission.{permissions_sized}
use Rattle.tables.specs.Refusals.{Check, refuse, below, same, differ, off, first_refusal}
use Rattle.tables.specs.Outcome.{Answer, refusal, answer, Out, out, outcome}
use Rattle.tables.specs.Arrival.{arrival_checks}
use Rattle.links.specs.Links.{identify_front, identified}
use Rattle.discover.specs.declared.Changes.{Changes}
use Rattle.rules.specs.Rules.{function_of, smp_reply, length_field}
use Rattle.smp.specs.Smp.{room_for, request_checks, values_of, buffers_of}
use Rattle.boundary.specs.declared.ElectedC.{ElectedC}
use Rattle.boundary.specs.declared.OpenedC.{OpenedC}
use Rattle.boundary.specs.declared.ToldC.{ToldC}
use Rattle.boundary.specs.declared.AnsweredC.{AnsweredC}

-- what a call gives: its answer's fields in the header's order, and every buffer that was lent to be written, in the order of the parameters
pub data Given : Type 0 where
  given : List ℕ → List (List ℕ) → Given

abbrev pub elected_fields : ElectedC → List ℕ
elected_fields r = r.refusal ∷ r.priority ∷ r.address ∷ []

abbrev pub opened_fields : OpenedC → List ℕ
opened_fields r = r.refusal ∷ r.outcome ∷ r.phy ∷ []

abbrev pub told_fields : ToldC → List ℕ
told_fields r = r.refusal ∷ r.count ∷ []

abbrev pub answered_fields : AnsweredC → List ℕ
answered_fields r = r.refusal ∷ r.result ∷ r.length ∷ r.count ∷ []

-- the first k values, and 0 in the place of one that is not there: "the phy to forward on, where outcome is SHELF_FORWARD; else 0"
abbrev pub padded : ℕ → List ℕ → List ℕ
padded zero vs = []
padded (suc k) [] = 0 ∷ padded k []
padded (suc k) (v ∷ vs) = v ∷ padded k vs

-- "refusal 0 where the call was answered, else the numbered refusal of the scope document (1 to 8)"; where it is refused "the other fields
-- of its answer are 0": there are k others
abbrev pub fields : ℕ → Answer → List ℕ
fields k (refusal n) = n ∷ padded k []
fields k (answer vs) = 0 ∷ padded k vs

-- the fields of what a call gave, whether its refusal is named or a bare number: its `values`, or a number that its refusal converts to
abbrev pub InFields : {A E : Type 0} → ℕ → (E → ℕ → Type 0) → (A → List ℕ) → Result A E → List ℕ → Type 0
InFields k converts values (Ok a) fs = fs ≡ fields k (answer (values a))
InFields k converts values (Err e) fs = (n : ℕ) × converts e n × (fs ≡ fields k (refusal n))

-- an outcome of document 01, as C gets it
abbrev pub in_c : ℕ → Out → Given
in_c k (out a bs) = given (fields k a) bs

-- the refusal, and where it is 0 another number
unfoldable pub or_else : ℕ → ℕ → ℕ
or_else zero own = own
or_else (suc n) own = suc n

-- "device_type, attached_phy .. 256 or more": whether the two fit
unfoldable pub bytes_fit : ℕ → ℕ → Bool
bytes_fit device attached = leb device 255 && leb attached 255

-- IDENTIFY "Refusals: 1, 2, 7 (already ready), 4 (address_len is not 8), 5 (address zero, then device_type or attached_phy over 255)": the
-- first three are document 01's, which has no other length and no wider number
abbrev pub identify_checks_c : List ℕ → ℕ → List ℕ → ℕ → ℕ → List Check
identify_checks_c phys phy address device attached =
    identify_front phys phy
    ++ refuse 4 (differ (length address) 8)
    ∷ refuse 5 (same (address_at address 0) 0)
    ∷ refuse 5 (off (bytes_fit device attached))
    ∷ []

abbrev pub identify_out_c : List ℕ → ℕ → List ℕ → ℕ → ℕ → Out
identify_out_c phys phy address device attached =
    outcome (first_refusal (identify_checks_c phys phy address device attached)) [] (phys ∷ []) (identified phys phy address device attached ∷ [])

-- "carried 256 or more", "phy_changes 256 or more, and expander_changes 65,536 or more": whether the three fit
unfoldable pub all_fit : ℕ → Changes → Bool
all_fit carried changes = leb carried 255 && (leb changes.expander 65535 && leb changes.phy 255)

-- "refused as 5 on any phy, after the other causes of 5", "whatever the request is"
abbrev pub smp_checks_c : ℕ → List ℕ → List ℕ → ℕ → ℕ → Changes → List ℕ → Bool → List Check
smp_checks_c w phys permissions phy carried changes request room =
    arrival_checks phys phy (permissions_sized w permissions) room true
    ++ (request_checks phys phy carried request
    ++ refuse 5 (off (all_fit carried changes))
    ∷ refuse 8 (below 255 (length_field w phys permissions phy carried changes request))
    ∷ [])

-- the counts as C hands them in
abbrev pub counted : ℕ → ℕ → Changes
counted expander count = record { expander = expander; phy = count }

-- the buffers: phy table, permission table, response, phy set
abbrev pub smp_out_c : ℕ → List ℕ → List ℕ → ℕ → ℕ → Changes → List ℕ → List ℕ → List ℕ → Out
smp_out_c w phys permissions phy carried changes request response set =
    outcome (first_refusal (smp_checks_c w phys permissions phy carried changes request (room_for response set)))
    (values_of (smp_reply w phys permissions phy carried changes request))
    (phys ∷ permissions ∷ response ∷ set ∷ [])
    (buffers_of (function_of request) (smp_reply w phys permissions phy carried changes request) response set)
