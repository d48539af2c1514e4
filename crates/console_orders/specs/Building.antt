-- Request 06, building: what every request has, a single order and a report. "21 request room under 1,020 bytes; 22 more entries than these; 23 a
-- group or a first phy above 127, or a priority above 15; 24 an order that document 01 answers 02h though the caller has the right .. Nothing is
-- written then."
use Rattle.std.specs.Prelude.{Bool, List, [], ◌∷◌, ◌++◌, ℕ, ◌+◌, ◌*◌, length, drop, Result, ⊤}
use Rattle.wire.specs.Bits.{num}
use Rattle.tables.specs.Refusals.{Check, refuse, below, first_refusal}
use Rattle.tables.specs.Outcome.{Answer, Out, outcome}
use Rattle.tables.specs.Numbers.{refused_by, answered_by}
use Rattle.console_orders.specs.declared.Refusal.{Refusal}
use Rattle.console_orders.specs.declared.Refusal.TheVariants.{NoRoom, TooMany, TooHigh, WouldFail, NoResponse}

-- the refusals' numbers
abbrev pub number : Refusal → ℕ
number NoRoom = 21
number TooMany = 22
number TooHigh = 23
number WouldFail = 24
number NoResponse = 25

-- what a check answers, as its number: 0 where nothing is refused
abbrev pub refused : Result ⊤ Refusal → ℕ
refused = refused_by number

-- "Answer: the request's length, or a refusal."
abbrev pub built_as : Result ℕ Refusal → Answer
built_as = answered_by number (λ m. m ∷ [])

-- a request in a lent buffer: at its front, with what stood behind
abbrev pub at_front : List ℕ → List ℕ → List ℕ
at_front bytes room = bytes ++ drop (length bytes) room

-- a call whose first refusal is n, and which else builds these bytes
abbrev pub built_out : ℕ → List ℕ → List ℕ → Out
built_out n bytes room = outcome n (length bytes ∷ []) (room ∷ []) (at_front bytes room ∷ [])

-- document 01's first eight bytes of 93h and 51h: 40h, function, zero, length in dwords, two reserved, and two that are the function's own
abbrev pub eight : ℕ → ℕ → ℕ → ℕ → List ℕ
eight function dwords x y = 0x40 ∷ function ∷ 0 ∷ dwords ∷ 0 ∷ 0 ∷ x ∷ y ∷ []

-- and the twelve of C1h: source, target with NEW VALUE, operation with UPDATE COMPLETE, start and k
abbrev pub twelve : ℕ → ℕ → ℕ → ℕ → ℕ → ℕ → List ℕ
twelve dwords source target operation start k = 0x40 ∷ 0xc1 ∷ 0 ∷ dwords ∷ 0 ∷ 0 ∷ source ∷ target ∷ 0 ∷ operation ∷ start ∷ k ∷ []

-- "a single order naming a group below 2" is 24; "a single order never gets 22"
abbrev pub single_checks : ℕ → ℕ → ℕ → List Check
single_checks room a b =
    refuse 21 (below room 1020)
    ∷ refuse 23 (below 127 a)
    ∷ refuse 23 (below 127 b)
    ∷ refuse 24 (below a 2)
    ∷ refuse 24 (below b 2)
    ∷ []

-- operation 8; NEW VALUE is byte 7 bit 7; "what an operation does not use [is] zero"
abbrev pub single_request : ℕ → ℕ → Bool → Bool → List ℕ
single_request a b new complete = twelve 2 a (128 * num new + b) (0x80 + num complete) 0 0

abbrev pub single_out : List ℕ → ℕ → ℕ → Bool → Bool → Out
single_out room a b new complete = built_out (first_refusal (single_checks (length room) a b)) (single_request a b new complete) room

-- a report is never 24
abbrev pub report_checks : ℕ → ℕ → ℕ → List Check
report_checks room start count =
    refuse 21 (below room 1020)
    ∷ refuse 22 (below 63 count)
    ∷ refuse 23 (below 127 start)
    ∷ []

abbrev pub report_request : ℕ → ℕ → List ℕ
report_request start count = eight 0x51 1 start count

abbrev pub report_out : List ℕ → ℕ → ℕ → Out
report_out room start count = built_out (first_refusal (report_checks (length room) start count)) (report_request start count) room
