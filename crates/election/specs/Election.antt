-- The elected supervisor.
use Rattle.std.specs.Prelude.{◌≡◌, Bool, false, cond, not, ◌&&◌, ◌||◌, ◌⊎◌, ℕ, zero, suc, eqb, ltb, Result}
use mathlib.Core.List.{List, [], ◌∷◌, ◌++◌, Memᴰ}
use Rattle.wire.specs.Groups.{is_group}
use Rattle.tables.specs.Refusals.{Check, refuse, off, first_refusal}
use Rattle.tables.specs.Outcome.{Answer, Out, outcome}
use Rattle.tables.specs.Numbers.{answered}
use Rattle.tables.specs.declared.refusal.Refusal.{Refusal}
use Rattle.tables.specs.Phys.{phy_count, phys_sized, phy_priority, phy_address, ready}
use Rattle.tables.specs.Routes.{route_count, routes_sized, route_group, route_priority, route_address}
use Rattle.election.specs.declared.Candidate.{Candidate}
use Rattle.election.specs.declared.Supervisor.{Supervisor}

-- the answer in document 01's numbers
abbrev pub elected_as : Result Supervisor Refusal → Answer
elected_as = answered (λ s. s.priority ∷ s.address ∷ [])

-- "priority above 0 and address not zero"
abbrev pub fit : ℕ → ℕ → Bool
fit priority address = ltb 0 priority && not (eqb address 0)

-- one candidate, or none
abbrev pub candidate : Bool → ℕ → ℕ → List Candidate
candidate stands p a = cond stands (record { priority = p; address = a } ∷ []) []

-- "Candidates: ready phys": phy i
abbrev pub phy_candidate : List ℕ → ℕ → List Candidate
phy_candidate phys i =
    candidate (ready phys i && fit (phy_priority phys i) (phy_address phys i)) (phy_priority phys i) (phy_address phys i)

-- the n phys from i on
unfoldable pub phy_candidates : List ℕ → ℕ → ℕ → List Candidate
phy_candidates phys i zero = []
phy_candidates phys i (suc n) = phy_candidate phys i ++ phy_candidates phys (suc i) n

-- "and route records": record i; where its byte 9 is no group "Such a route record is skipped .. in the election."
abbrev pub route_candidate : List ℕ → ℕ → List Candidate
route_candidate routes i =
    candidate (is_group (route_group routes i) && fit (route_priority routes i) (route_address routes i)) (route_priority routes i) (route_address routes i)

-- the n records from i on
unfoldable pub route_candidates : List ℕ → ℕ → ℕ → List Candidate
route_candidates routes i zero = []
route_candidates routes i (suc n) = route_candidate routes i ++ route_candidates routes (suc i) n

-- "Candidates: ready phys and route records", in the order in which they are carried
abbrev pub candidates : List ℕ → List ℕ → List Candidate
candidates phys routes = phy_candidates phys 0 (phy_count phys) ++ route_candidates routes 0 (route_count routes)

-- "higher priority wins, then the greater address"
unfoldable pub beats : Candidate → Candidate → Bool
beats c d = ltb d.priority c.priority || (eqb d.priority c.priority && ltb d.address c.address)

-- the winner of c and b
abbrev pub better : Candidate → Candidate → Candidate
better c b = cond (beats c b) c b

-- "The best candidate so far is carried": the best of b and the candidates cs
unfoldable pub best : Candidate → List Candidate → Candidate
best b [] = b
best b (c ∷ cs) = best (better c b) cs

-- "None: priority 0, address 0"
abbrev pub nobody : Candidate
nobody = record { priority = 0; address = 0 }

-- "The best candidate so far is carried from the phy table into the route table"
abbrev pub elected : List ℕ → List ℕ → Candidate
elected phys routes = best nobody (candidates phys routes)

-- elect: refusal 1 for either table
abbrev pub elect_checks : List ℕ → List ℕ → List Check
elect_checks phys routes = refuse 1 (off (phys_sized phys)) ∷ refuse 1 (off (routes_sized routes)) ∷ []

-- nothing is written
abbrev pub elect_out : List ℕ → List ℕ → Out
elect_out phys routes =
    outcome (first_refusal (elect_checks phys routes))
    ((elected phys routes).priority ∷ (elected phys routes).address ∷ []) [] []

-- what an election is: a candidate that no candidate beats, or nobody where there is none
abbrev pub Greatest : Candidate → List Candidate → Type 0
Greatest c cs =
    (Memᴰ c cs × ((d : Candidate) → Memᴰ d cs → beats d c ≡ false))
    ⊎ ((c ≡ nobody) × (cs ≡ []))
