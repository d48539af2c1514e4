-- The console's answers fit into what it was lent: a buffer keeps its length, and the answer's bytes stand at its front.
-- Assumes nothing.
use mathlib.Core.Path.{◌≡◌, ap}
use mathlib.Core.Bool.{Bool, true, false, cond}
use mathlib.Core.List.{List, [], ◌∷◌, ◌++◌}
use Prim.Native.Nat.{ℕ, zero, suc, ◌*◌, ◌≤◌}
use native.Mathlib.Omega.{arith}
use lib.ListN.{length, get_or, drop, length-append, length-drop}
use Rattle.wire.specs.Bits.{tab}
use Rattle.wire.proofs.Loops.{length-tab}
use Rattle.tables.specs.Outcome.{answer, out, outcome}
use Rattle.std.proofs.Common.{Result, Ok, Err}
use Rattle.console_orders.specs.declared.Refusal.{Refusal}
use Rattle.console_reading.specs.declared.Heard.{Heard}
use Rattle.console_reading.specs.declared.Heard.TheVariants as told
use Rattle.console_orders.specs.Building.{built_as, built_out}
use Rattle.console_reading.specs.Reading.{heard_as, heard, rows_then, reports, start_of, count_of, unpacked}
use Rattle.warden_text.specs.Room.{built_length, heard_rows}

-- a list of this length at the front of one that did not grow
front : (bytes room : List ℕ) (n : ℕ) → length (bytes ++ drop (length bytes) room) ≡ n → n ≡ length room → length bytes ≤ n
front bytes room n e h = omega (arith, simp (length-append, length-drop) at e)

pub built_fits : (r : Result ℕ Refusal) (n : ℕ) (bytes room room₁ : List ℕ) → out (built_as r) (room₁ ∷ []) ≡ built_out n bytes room → length room₁ ≡ length room
    → built_length r ≤ length room₁
unfolding outcome
built_fits (Err m) n bytes room room₁ e h = omega arith
built_fits (Ok m) zero bytes room room₁ e h =
    let p : m ≡ length bytes = cc in
    let q : bytes ++ drop (length bytes) room ≡ room₁ = cc in
    let s = front bytes room (length room₁) (ap length q) h in
    omega arith
built_fits (Ok m) (suc n) bytes room room₁ e h = absurd (let z : ◌≡◌ {A = ℕ} 0 1 = cc in omega arith)

pub heard_fits : (r : Result Heard Refusal) (n : ℕ) (response rows rows₁ : List ℕ)
    → out (heard_as r) (rows₁ ∷ []) ≡ outcome n (heard response) (rows ∷ []) (rows_then response rows ∷ []) → length rows₁ ≡ length rows
    → 128 * heard_rows r ≤ length rows₁
unfolding outcome heard rows_then
heard_fits (Err m) n response rows rows₁ e h = omega arith
heard_fits (Ok (told.Result f m)) n response rows rows₁ e h = omega arith
heard_fits (Ok (told.Rows s k)) zero response rows rows₁ e h = go (reports response) e
  where
    go : (v : Bool) → out (answer (0x51 ∷ 0x00 ∷ s ∷ k ∷ [])) (rows₁ ∷ [])
        ≡ out (answer (cond v (0x51 ∷ 0x00 ∷ start_of response ∷ count_of response ∷ []) (get_or response 1 0 ∷ get_or response 2 0 ∷ [])))
        (cond v (tab (unpacked response) 0 (128 * count_of response) ++ drop (128 * count_of response) rows) rows ∷ [])
        → 128 * k ≤ length rows₁
    go true q =
        let p : k ≡ count_of response = cc in
        let t : tab (unpacked response) 0 (128 * count_of response) ++ drop (128 * count_of response) rows ≡ rows₁ = cc in
        omega (arith, simp (length-append, length-drop, length-tab) at (ap length t))
    go false q = absurd (let z : ◌≡◌ {A = ℕ} 0 1 = cc in omega arith)
heard_fits (Ok (told.Rows s k)) (suc n) response rows rows₁ e h = absurd (let z : ◌≡◌ {A = ℕ} 0 1 = cc in omega arith)
