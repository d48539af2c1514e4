-- What a call gives, as one value: its answer in document 01's numbers, and every buffer that was lent to be written, in the order of
-- the parameters.
use Rattle.std.specs.Prelude.{List, ℕ, zero, suc}

-- a numbered refusal, or the number 0 with the call's values
pub data Answer : Type 0 where
  refusal : ℕ → Answer
  answer : List ℕ → Answer

pub data Out : Type 0 where
  out : Answer → List (List ℕ) → Out

-- "Each returns its number and changes nothing. Otherwise the call returns 0": a call whose first refusal is n gives at 0 its values and the
-- buffers `new`, else the refusal and the buffers as they were handed in, `old`
unfoldable pub outcome : ℕ → List ℕ → List (List ℕ) → List (List ℕ) → Out
outcome zero values old new = out (answer values) new
outcome (suc n) values old new = out (refusal (suc n)) old
