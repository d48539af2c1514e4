-- "Such a route record is skipped .. in the election": the candidates are those of the table without that record.
-- Assumes nothing.
use mathlib.Core.Path.{◌≡◌, refl, sym, ap, ◌∙◌}
use mathlib.Core.List.{List, ◌++◌}
use Prim.Native.Nat.{ℕ, zero, suc, ◌+◌, ◌*◌, ◌%◌, ◌<◌}
use native.Mathlib.Nat.{add-zero}
use native.Mathlib.Omega.{arith}
use lib.ListN.{length, get_or}
use Rattle.std.proofs.Common.{None}
use Rattle.wire.specs.Address.{big_endian, address_at}
use Rattle.wire.proofs.GroupLaws.{outside_none}
use Rattle.tables.specs.Phys.{phy_count}
use Rattle.tables.specs.Routes.{route_record, route_byte, route_group}
use Rattle.tables.proofs.RouteLaws.{SameRecord, Walk, walk_skips}
use Rattle.election.specs.declared.Candidate.{Candidate}
use Rattle.election.specs.Election.{phy_candidates, route_candidate, route_candidates, candidates}

-- the same bytes are the same address
big_reads : (n : ℕ) (r : List ℕ) (i : ℕ) (s : List ℕ) (j high : ℕ) → ((k : ℕ) → k < n → get_or r (i + k) 0 ≡ get_or s (j + k) 0)
    → big_endian r n i high ≡ big_endian s n j high
unfolding big_endian
big_reads zero r i s j high h = refl
big_reads (suc n) r i s j high h =
    let first : get_or r i 0 ≡ get_or s j 0 = rw (← add-zero i, ← add-zero j) (h 0 (omega arith)) in
    big_reads n r (suc i) s (suc j) (high * 256 + get_or r i 0) (λ k l.
    let p : suc i + k ≡ i + suc k = omega arith in
    let q : suc j + k ≡ j + suc k = omega arith in
    rw (p, q) (h (suc k) (omega arith)))
    ∙ ap (λ (x : ℕ). big_endian s n (suc j) (high * 256 + x)) first

-- what record i adds to the candidates of the records above it
abbrev stood : List ℕ → ℕ → List Candidate → List Candidate
stood routes i cs = route_candidate routes i ++ cs

stood_reads : (r : List ℕ) (i : ℕ) (s : List ℕ) (j : ℕ) → SameRecord r i s j → (cs : List Candidate) → stood r i cs ≡ stood s j cs
unfolding address_at
stood_reads r i s j h cs =
    let b = big_reads 8 r (route_record * i) s (route_record * j) 0 (λ k l. h k (omega arith)) in
    rw (h 9 (omega arith), h 10 (omega arith), b)

stood_passes : (r : List ℕ) (i : ℕ) → 127 < route_byte r i 9 → (cs : List Candidate) → stood r i cs ≡ cs
stood_passes r i h cs = let g : route_group r i ≡ None = sym (outside_none (route_byte r i 9) h) in rw g

route_walk : Walk (List Candidate) route_candidates stood
unfolding route_candidates
route_walk = record { ends = λ r i s j. refl; steps = λ r i n. refl; reads = stood_reads; passes = stood_passes }

pub candidates_skip : (phys before skipped behind : List ℕ) → length before % route_record ≡ 0 → length skipped ≡ route_record → 127 < get_or skipped 9 0
    → candidates phys (before ++ skipped ++ behind) ≡ candidates phys (before ++ behind)
candidates_skip phys before skipped behind a c h =
    ap (λ (cs : List Candidate). phy_candidates phys 0 (phy_count phys) ++ cs) (walk_skips route_walk before skipped behind a c h)
