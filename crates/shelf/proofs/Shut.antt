-- The count, the supervisor, and programs that are shut out by name, by cases 1 and 5.
-- Assumes nothing.
use mathlib.Core.Path.{◌≡◌, sym, ap, ◌∙◌}
use mathlib.Core.Bool.{true, false}
use mathlib.Core.List.{List, [], ◌∷◌, ◌++◌}
use Prim.Native.Nat.{ℕ}
use native.Mathlib.Omega.{arith}
use lib.ListN.{length, get_or, drop, replicate}
use Rattle.wire.specs.PhySet.{phys_in}
use Rattle.wire.proofs.Sets.{count_front}
use Rattle.permit.specs.Permission.{P, start_table}
use Rattle.permit.proofs.Laws.{P-start}
use Rattle.tables.specs.Outcome.{answer}
use Rattle.tables.specs.Phys.{phy_group}
use Rattle.election.proofs.ElectionLaws.{greatest}
use Rattle.told_set.specs.ToldSet.{told_set}
use Rattle.broadcasts.specs.Broadcasts.{frame_source}
use Rattle.told_set.proofs.ToldLaws.{length-told}
use Rattle.discover.specs.declared.Changes.{Changes}
use Rattle.rules.specs.Rules.{smp_reply}
use Rattle.rules.proofs.RuleLaws.{set_16}
use Rattle.rack.specs.Rack.{rack_table}
use Rattle.shelf.specs.Calls.{Call, smp, outcome_of, answer_of, after}
use Rattle.shelf.specs.Cases.{asks, fresh, single89, after1}
use Rattle.shelf.specs.Promises.{refused, Counted, Supervisor, ShutOut}
use Rattle.shelf.proofs.Answers.{gave}
use Rattle.shelf.proofs.Worked.{cases}

-- case 1 as a call
abbrev ordering : Call
ordering = smp rack_table 0 0 (record { expander = 0; phy = 0 }) single89 (replicate 1020 0) (replicate 16 0)

-- case 1 is answered
answered : answer_of (outcome_of 16 ordering (start_table 16)) ≡ answer (0 ∷ 4 ∷ 8 ∷ [])
unfolding outcome_of fresh asks
answered = cases.0.0

-- case 5 is answered otherwise
turned : answer_of (outcome_of 16 (smp rack_table 2 0 (record { expander = 0; phy = 0 }) single89 (replicate 1020 0) (replicate 16 0)) after1) ≡ answer (1 ∷ 4 ∷ 0 ∷ [])
unfolding outcome_of asks
turned = cases.0.6

-- case 1 switched 8 and 9 on, which start-up leaves off
changed : after 16 ordering (start_table 16) ≡ start_table 16 → true ≡ P 16 (start_table 16) 8 9
unfolding after outcome_of after1 fresh asks
changed e = sym cases.0.1.0 ∙ ap (λ (t : List ℕ). P 16 t 8 9) e

was_off : P 16 (start_table 16) 8 9 ≡ false
was_off = P-start 16 8 9 (omega arith) (omega arith)

-- ---- the count
-- a set of sixteen bytes at the head of buffer k of a call that is not refused
counts : (n : ℕ) (set rest buffer : List ℕ) → n ≡ phys_in set → buffer ≡ set ++ rest → length set ≡ 16 → n ≡ phys_in buffer
counts n set rest buffer e eb l = e ∙ sym (ap phys_in eb ∙ count_front set rest l)

pub counted : Counted
unfolding outcome_of
counted = (
  λ w phys t phy number set frame n bs e. let g = gave _ _ _ _ (n ∷ []) bs e in
      let v : n ≡ phys_in (told_set w phys t phy (phy_group phys phy)) = cc g.0 in
      counts n (told_set w phys t phy (phy_group phys phy)) (drop 16 set) (get_or bs 0 []) v (ap (λ (l : List (List ℕ)). get_or l 0 []) g.1) (length-told w phys t phy (phy_group phys phy)),
  λ w phys t phy arrived set frame n bs e. let g = gave _ _ _ _ (n ∷ []) bs e in
      let v : n ≡ phys_in (told_set w phys t phy (frame_source arrived)) = cc g.0 in
      counts n (told_set w phys t phy (frame_source arrived)) (drop 16 set) (get_or bs 0 []) v (ap (λ (l : List (List ℕ)). get_or l 0 []) g.1) (length-told w phys t phy (frame_source arrived)),
  λ w phys t phy carried changes request response set result written n bs e. let g = gave _ _ _ _ (result ∷ written ∷ n ∷ []) bs e in
      let v : n ≡ phys_in (smp_reply w phys t phy carried changes request).set = cc g.0 in
      counts n (smp_reply w phys t phy carried changes request).set (drop 16 set) (get_or bs 3 []) v (ap (λ (l : List (List ℕ)). get_or l 3 []) g.1) (set_16 w phys t phy carried changes request),
)

-- ---- the supervisor
pub supervisor : Supervisor
supervisor = greatest

-- ---- shut out
differ : true ≡ false → ⊥
differ e = let z : ◌≡◌ {A = ℕ} 0 1 = cc in omega arith

-- by an order that is accepted and changes the table, and another that is turned down
module _ (w : ℕ) (phys t u : List ℕ) (phy far : ℕ) (changes : Changes) (request other response set : List ℕ) (k : ℕ) where
  pub shut_by : answer_of (outcome_of w (smp phys phy 0 changes request response set) t) ≡ answer (0 ∷ 4 ∷ k ∷ [])
      → answer_of (outcome_of w (smp phys far 0 changes other response set) u) ≡ answer (1 ∷ 4 ∷ 0 ∷ [])
      → (after w (smp phys phy 0 changes request response set) t ≡ t → ⊥) → ShutOut w
  shut_by yields turned changed = (
    λ h. differ (sym (sym (ap refused yields) ∙ h (smp phys phy 0 changes request response set) t)),
    λ a h. let e : answer (0 ∷ 4 ∷ k ∷ []) ≡ answer (1 ∷ 4 ∷ 0 ∷ []) = sym yields ∙ h phys t phy 0 changes request response set ∙ sym (h phys u far 0 changes other response set) ∙ turned in
        let z : ◌≡◌ {A = ℕ} 0 1 = cc in omega arith,
    λ h. changed (h (smp phys phy 0 changes request response set) t),
  )

pub shut_out : ShutOut 16
shut_out = shut_by 16 rack_table (start_table 16) after1 0 2 (record { expander = 0; phy = 0 }) single89 single89 (replicate 1020 0) (replicate 16 0) 8 answered turned (λ e. differ (changed e ∙ was_off))
