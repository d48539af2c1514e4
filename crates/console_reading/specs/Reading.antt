-- Request 06, reading: "a result, and for an accepted report the first group and rows as 0 or 1 for each group into a lent buffer"; 25 for "a length or
-- bytes 0 to 7 that none of the three requests can get, from any shelf".
use Rattle.std.specs.Prelude.{Bool, false, cond, ◌&&◌, ◌||◌, List, [], ◌∷◌, ◌++◌, ℕ, ◌+◌, ◌*◌, ◌/◌, ◌%◌, eqb, length, get_or, drop, set, Result}
use Rattle.wire.specs.Bits.{num, bit, tab}
use Rattle.permit.specs.Permission.{P}
use Rattle.tables.specs.Refusals.{Check, refuse, below, differ, off, first_refusal}
use Rattle.tables.specs.Outcome.{Answer, Out, outcome}
use Rattle.tables.specs.Numbers.{answered_by}
use Rattle.console_orders.specs.declared.Refusal.{Refusal}
use Rattle.console_orders.specs.Building.{number}
use Rattle.console_reading.specs.declared.Heard.{Heard}
use Rattle.console_reading.specs.declared.Heard.TheVariants as says

-- the values: function and result; or an accepted report's function, result, first group and rows
abbrev pub heard_values : Heard → List ℕ
heard_values (says.Result function result) = function ∷ result ∷ []
heard_values (says.Rows start count) = 0x51 ∷ 0x00 ∷ start ∷ count ∷ []

-- the answer: a refusal's number, or the values
abbrev pub heard_as : Result Heard Refusal → Answer
heard_as = answered_by number heard_values

-- a result that is one of these
unfoldable pub among : ℕ → List ℕ → Bool
among r [] = false
among r (x ∷ xs) = eqb r x || among r xs

-- "a result that this function can give"
unfoldable pub possible : ℕ → ℕ → Bool
possible function r =
    cond (eqb function 0x93) (among r (0x00 ∷ 0x02 ∷ 0x03 ∷ 0x10 ∷ []))
    (cond (eqb function 0xc1) (among r (0x00 ∷ 0x01 ∷ 0x02 ∷ 0x03 ∷ 0x11 ∷ []))
    (cond (eqb function 0x51) (among r (0x00 ∷ 0x01 ∷ 0x03 ∷ 0x11 ∷ []))
    false))

-- an accepted report
unfoldable pub reports : List ℕ → Bool
reports response = eqb (get_or response 1 0) 0x51 && eqb (get_or response 2 0) 0x00

-- document 01, of a report: "byte 6 start, byte 7 r"
abbrev pub start_of : List ℕ → ℕ
start_of response = get_or response 6 0

abbrev pub count_of : List ℕ → ℕ
count_of response = get_or response 7 0

-- of an accepted report "bytes 4 and 5 zero, start at most 127, rows at most 63 and start + rows at most 128 (no rows is possible), length 12 + 16
-- rows exactly", and the "length field and length that agree"; "bytes 8 to 11 are not looked at"
abbrev pub rows_checks : List ℕ → List Check
rows_checks response =
    refuse 25 (below (length response) 12)
    ∷ refuse 25 (differ (get_or response 4 0) 0)
    ∷ refuse 25 (differ (get_or response 5 0) 0)
    ∷ refuse 25 (below 127 (start_of response))
    ∷ refuse 25 (below 63 (count_of response))
    ∷ refuse 25 (below 128 (start_of response + count_of response))
    ∷ refuse 25 (differ (get_or response 3 0) (2 + 4 * count_of response))
    ∷ refuse 25 (differ (length response) (12 + 16 * count_of response))
    ∷ []

-- "four bytes unless it is an accepted report", and a length field of 0
abbrev pub short_checks : List ℕ → List Check
short_checks response = refuse 25 (differ (length response) 4) ∷ refuse 25 (differ (get_or response 3 0) 0) ∷ []

-- which of the two it is: "a four-byte 51h with result 00h is 25"
unfoldable pub length_checks : List ℕ → List Check
length_checks response = cond (reports response) (rows_checks response) (short_checks response)

-- "41h; the function; a result that this function can give", and then its length
abbrev pub head_checks : List ℕ → List Check
head_checks response =
    refuse 25 (below (length response) 4)
    ∷ refuse 25 (differ (get_or response 0 0) 0x41)
    ∷ refuse 25 (off (possible (get_or response 1 0) (get_or response 2 0)))
    ∷ length_checks response

-- 21 here: room for rows under 63 rows of 128 bytes, also where the response has fewer
abbrev pub read_checks : List ℕ → ℕ → List Check
read_checks response room = refuse 21 (below room 8064) ∷ head_checks response

-- byte i of the rows as they are lent out, 128 a row: 1 where the report's row permits the group, else 0
unfoldable pub unpacked : List ℕ → ℕ → ℕ
unpacked response i = num (P 16 (drop 12 response) (i / 128) (i % 128))

-- a buffer with the bits of x in the eight places from `at` on: what an inner function leaves
unfoldable pub eight_from : ℕ → List ℕ → ℕ → List ℕ
eight_from x s at =
    set
    (set
    (set
    (set (set (set (set (set s at (bit x 0)) (at + 1) (bit x 1)) (at + 2) (bit x 2)) (at + 3) (bit x 3)) (at + 4) (bit x 4))
    (at + 5) (bit x 5))
    (at + 6) (bit x 6))
    (at + 7) (bit x 7)

-- the values: function and result as they stand; of an accepted report its first group and how many rows as well
unfoldable pub heard : List ℕ → List ℕ
heard response =
    cond (reports response) (0x51 ∷ 0x00 ∷ start_of response ∷ count_of response ∷ []) (get_or response 1 0 ∷ get_or response 2 0 ∷ [])

-- the rows buffer then: an accepted report's rows at its front, and what stood behind; else as it was
unfoldable pub rows_then : List ℕ → List ℕ → List ℕ
rows_then response rows =
    cond (reports response) (tab (unpacked response) 0 (128 * count_of response) ++ drop (128 * count_of response) rows) rows

abbrev pub read_out : List ℕ → List ℕ → Out
read_out response rows =
    outcome (first_refusal (read_checks response (length rows))) (heard response) (rows ∷ []) (rows_then response rows ∷ [])
