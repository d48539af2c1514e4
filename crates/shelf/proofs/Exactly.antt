-- Exactly one: two answers, with their buffers, that meet a call's contract on one input are equal.
-- Assumes nothing.
use mathlib.Core.Path.{◌≡◌}
use Rattle.tables.specs.Outcome.{Answer}
use Rattle.links.proofs.Unique as links
use Rattle.election.proofs.Unique as election
use Rattle.opens.proofs.Unique as opens
use Rattle.broadcasts.proofs.Unique as broadcasts
use Rattle.smp.proofs.Unique as smp
use Rattle.imports.proofs.Unique as imports
use Rattle.exports.proofs.Unique as exports
use Rattle.file_trailer.proofs.Unique as files
use Rattle.shelf.specs.Promises.{One, ExactlyOne}

-- one lemma for all calls, from that an answer is one in document 01's numbers
one : {A : Type 0} (tells : A → Answer) → ((r q : A) → tells r ≡ tells q → r ≡ q) → One tells
one tells inj r q xs ys o e f =
    let a : tells r ≡ tells q = cc in
    (inj r q a, cc)

pub exactly_one_lem : ExactlyOne
exactly_one_lem = (
  one _ links.one_answer,
  one _ election.one_answer,
  one _ opens.one_answer,
  one _ broadcasts.one_answer,
  one _ smp.one_answer,
  one _ imports.one_answer,
  one _ exports.one_answer,
  one _ files.one_save,
  one _ files.one_load,
)
