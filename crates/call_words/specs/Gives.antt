-- What each call gives at the bench: the words of its line, and both tables.
use Rattle.std.specs.Prelude.{List, [], ◌∷◌, ℕ, get_or, replicate}
use Rattle.tables.specs.Outcome.{Answer, Out, out}
use Rattle.links.specs.Links.{leaving_out, identify_out}
use Rattle.opens.specs.Open.{open_out}
use Rattle.broadcasts.specs.Broadcasts.{primitive_out, broadcast_out}
use Rattle.discover.specs.declared.Changes.{Changes}
use Rattle.smp.specs.Smp.{smp_out}
use Rattle.lines.specs.Words.{K, words, outcome_words, reply_words, told_words, link_words}

-- what an event gives: the words of its line, and both tables
pub record Given : Type 0 where
  pub said : List ℕ
  pub phys : List ℕ
  pub permissions : List ℕ

-- "prints number and K and changes nothing"
abbrev pub unknown : List ℕ → List ℕ → Given
unknown phys permissions = record { said = K ∷ []; phys = phys; permissions = permissions }

abbrev pub answer_of : Out → Answer
answer_of (out a bs) = a

-- of a call's buffers, the one at place k
abbrev pub buffer : ℕ → Out → List ℕ
buffer k (out a bs) = get_or bs k []

-- a call's answer in words, with the tables that it left
abbrev pub given : (List ℕ → List ℕ) → Out → List ℕ → List ℕ → Given
given f o phys permissions = record { said = words f (answer_of o); phys = phys; permissions = permissions }

-- the buffers that the bench lends: a response of 1,020 bytes, a phy set of 16 and a frame buffer of 28, all zero
abbrev pub zeros : ℕ → List ℕ
zeros n = replicate n 0

-- an SMP call's buffers 0 and 1 are the tables, a link call's buffer 0 is the phy table
abbrev pub smp_left : Out → Given
smp_left o = given reply_words o (buffer 0 o) (buffer 1 o)

abbrev pub link_left : Out → List ℕ → Given
link_left o permissions = given link_words o (buffer 0 o) permissions

-- document 02, request 03: "the bench gives 1, 0 and counts 0": the caller hands in "both change counts"
abbrev pub no_changes : Changes
no_changes = record { expander = 0; phy = 0 }

unfoldable pub smp_gives : List ℕ → List ℕ → ℕ → ℕ → List ℕ → Given
smp_gives phys permissions phy carried payload = smp_left (smp_out 16 phys permissions phy carried no_changes payload (zeros 1020) (zeros 16))

unfoldable pub open_gives : List ℕ → List ℕ → ℕ → List ℕ → Given
open_gives phys permissions phy payload = given outcome_words (open_out 16 phys [] permissions phy payload (zeros 28)) phys permissions

unfoldable pub primitive_gives : List ℕ → List ℕ → ℕ → List ℕ → Given
primitive_gives phys permissions phy payload =
    given told_words (primitive_out 16 phys permissions phy (get_or payload 0 0) (zeros 16) (zeros 28)) phys permissions

unfoldable pub broadcast_gives : List ℕ → List ℕ → ℕ → List ℕ → Given
broadcast_gives phys permissions phy payload =
    given told_words (broadcast_out 16 phys permissions phy payload (zeros 16) (zeros 28)) phys permissions

-- document 02, request 03: "the bench gives 1, 0": the device type and the attached phy
unfoldable pub identify_gives : List ℕ → List ℕ → ℕ → List ℕ → Given
identify_gives phys permissions phy payload = link_left (identify_out phys phy payload 1 0) permissions

unfoldable pub leaving_gives : List ℕ → List ℕ → ℕ → Given
leaving_gives phys permissions phy = link_left (leaving_out phys phy) permissions
