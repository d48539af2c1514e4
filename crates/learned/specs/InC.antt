-- What a member can learn at the C boundaries, whose request has one row more: numbers that do not fit are refused as 5.
use Rattle.std.specs.Prelude.{◌≡◌, false, List, ℕ}
use Rattle.discover.specs.Discover.{ignores_groups}
use Rattle.rules.specs.Rules.{function_of}
use Rattle.boundary.specs.C.{Given, in_c, smp_out_c}
use Rattle.shelf.specs.Promises.{Shelf, none, Alike, seen_of}

-- what a request gets the caller: the fields of the answer, and the bytes of response and set
abbrev pub gets_in_c : ℕ → Shelf → List ℕ → Given
gets_in_c w s request = in_c 3 (seen_of (smp_out_c w s.phys s.permissions s.phy s.carried s.changes request s.response s.set))

-- as LearnsNothingElse, of all numbers that C can hand in. Here the proof uses that the carried byte is the same.
abbrev pub LearnsNothingElseInC : Type 0
LearnsNothingElseInC =
    (w : ℕ) (a b : Shelf) → Alike none w a b → (request : List ℕ) → function_of request ≡ 0x10 → ignores_groups request ≡ false
    → gets_in_c w a request ≡ gets_in_c w b request
