-- The small shelf's promises, from those for every row width; and programs that are shut out by name.
-- Assumes nothing.
use mathlib.Core.Path.{◌≡◌, refl, sym, ap, ap₂, ◌∙◌}
use mathlib.Core.List.{List}
use mathlib.Core.Logic.{inl, inr}
use Prim.Native.Nat.{ℕ, ◌%◌}
use native.Mathlib.Omega.{arith}
use lib.Dec.{eqb}
use lib.ListN.{get_or, replicate}
use Rattle.wire.specs.Bits.{bit}
use Rattle.permit.specs.Permission.{place, P, start_table}
use Rattle.permit.proofs.ReachLaws.{reach_in, reach_row, reach_group}
use Rattle.rack.specs.Rack.{rack_table}
use Rattle.shelf.specs.Calls.{outcome_of, after}
use Rattle.shelf.specs.Promises.{ShutOut}
use Rattle.shelf.proofs.Histories.{any_run}
use Rattle.shelf.proofs.Shut.{shut_by}
use Rattle.small.specs.Cases.{single, asks, fresh}
use Rattle.small.specs.Promises.{ByteARow, OnlyGroup1, Groups2To7}
use Rattle.small.proofs.Worked.{cases}

pub byte_a_row : ByteARow
unfolding P place
byte_a_row t a j h =
    let p : place 1 a j ≡ a = omega arith in
    let m : j % 8 ≡ j = omega arith in
    ap₂ (λ (x k : ℕ). eqb (bit (get_or t x 0) k) 1) p m

pub only_group_1 : OnlyGroup1
only_group_1 t a b (inl h) = sym (reach_row 1 t a b _ (omega arith) refl)
only_group_1 t a b (inr h) = sym (reach_group 1 t a b _ (omega arith) refl)

pub groups_2_to_7 : Groups2To7
groups_2_to_7 t cs e a b la ha lb hb =
    sym (reach_in 1 _ a b _ (omega arith) (omega arith) refl) ∙ (any_run 1 t cs e).pairs a b (la, omega arith) (lb, omega arith)

-- ---- shut out
-- an order for 2 and 3 from group 1 is accepted and changes the table; one from group 8 is turned down
pub shut_out : ShutOut 1
unfolding outcome_of after asks fresh
shut_out =
    shut_by 1 rack_table (start_table 1) (start_table 1) 0 2 (record { expander = 0; phy = 0 }) (single 2 3) (single 7 8) (replicate 1020 0) (replicate 16 0) 0
    cases.5 cases.13 (λ e. let z : ◌≡◌ {A = ℕ} 10 2 = ap (λ (t : List ℕ). get_or t 2 0) (sym cases.6 ∙ e ∙ cases.0) in omega arith)
