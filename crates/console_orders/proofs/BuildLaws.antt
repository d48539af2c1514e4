-- Building: the loop that fills behind the head, and the ends of the calls.
-- Assumes nothing.
use mathlib.Core.Path.{◌≡◌, refl, sym, ap, ap₂, ◌∙◌}
use mathlib.Core.Bool.{Bool}
use mathlib.Core.List.{List, [], ◌∷◌, ◌++◌}
use Prim.Native.Nat.{ℕ, ◌+◌, ◌*◌, ◌≤◌, ◌<◌}
use native.Mathlib.Nat.{zero-add}
use native.Mathlib.Numerals.{add-one}
use native.Mathlib.Omega.{arith}
use mir.Syntax.{w8}
use mir.Val.{Fits}
use lib.ListN.{length, get_or, set, drop, length-set, length-append}
use lib.Seq.{paste, paste-zero, paste-suc, take_all, take_at, drop_at, drop-drop}
use Rattle.wire.specs.Bits.{num, tab}
use Rattle.wire.proofs.Loops.{length-tab, get_or-tab}
use Rattle.tables.specs.Outcome.{answer, out}
use Rattle.tables.specs.Refusals.{first_refusal}
use Rattle.tables.proofs.RefusalLaws.{clear}
use Rattle.tables.proofs.OutcomeLaws.{gives}
use Rattle.console_orders.specs.Building.{eight, twelve, single_checks, single_request, report_checks, report_request, built_out}

-- ---- the invariant of a loop that fills n bytes from `at` on
pub record Put (f : ℕ → ℕ) (n at : ℕ) (s₀ s : List ℕ) (k : ℕ) : Type 0 where
  pub room : at + n ≤ length s₀
  pub within : k ≤ n
  pub same : length s ≡ length s₀
  pub filled : s ≡ paste s₀ at (tab f 0 n) k

module _ (f : ℕ → ℕ) (n at : ℕ) (s₀ : List ℕ) where
  pub put-start : at + n ≤ length s₀ → Put f n at s₀ s₀ 0
  put-start h = record { room = h; within = omega arith; same = refl; filled = paste-zero s₀ at (tab f 0 n) }

  pub put_again : (s : List ℕ) (k x : ℕ) → k < n → x ≡ f k → Put f n at s₀ s k → Put f n at s₀ (set s (at + k) x) (k + 1)
  put_again s k x h e r =
      let v : x ≡ get_or (tab f 0 n) k 0 = e ∙ ap f (sym (zero-add k)) ∙ sym (get_or-tab f 0 n k h) in
      let b = r.room in
      let c : at + k < length s₀ = omega arith in
      let d : k < length (tab f 0 n) = omega (arith, length-tab f 0 n) in
      record {
        room = r.room;
        within = omega arith;
        same = length-set s (at + k) x ∙ r.same;
        filled = rw (r.filled, v, add-one k) (paste-suc s₀ at (tab f 0 n) k 0 c d);
      }

  pub put_end : (s : List ℕ) (k : ℕ) → n ≤ k → Put f n at s₀ s k → s ≡ paste s₀ at (tab f 0 n) n
  put_end s k h r = let l = r.within in let e : k ≡ n = omega arith in r.filled ∙ ap (paste s₀ at (tab f 0 n)) e

-- a head, and what is filled in behind it
pub behind : (f : ℕ → ℕ) (n at : ℕ) (head room s t : List ℕ) → length head ≡ at → s ≡ head ++ drop at room → t ≡ paste s at (tab f 0 n) n
    → t ≡ (head ++ tab f 0 n) ++ drop (length (head ++ tab f 0 n)) room
behind f n at head room s t l e p =
    let q : length (head ++ tab f 0 n) ≡ at + n = length-append head (tab f 0 n) ∙ ap₂ ◌+◌ l (length-tab f 0 n) in
    p
    ∙ rw (
      e,
      take_at head (drop at room) at l,
      ← drop-drop n at (head ++ drop at room),
      drop_at head (drop at room) at l,
      drop-drop n at room,
      take_all n (tab f 0 n) (omega (arith, length-tab f 0 n)),
      q,
    )

-- ---- the ends of the calls, where the checks answered Ok
module _ (room room₁ : List ℕ) where
  pub single_done : (a b x y : ℕ) (new complete : Bool) → 0 ≡ first_refusal (single_checks (length room) a b)
      → x ≡ num new → y ≡ num complete
      → room₁ ≡ twelve 2 a (128 * x + b) (0x80 + y) 0 0 ++ drop 12 room
      → out (answer (12 ∷ [])) (room₁ ∷ []) ≡ built_out (first_refusal (single_checks (length room) a b)) (single_request a b new complete) room
  single_done a b x y new complete e ex ey er =
      gives _ _ _ _ _ _ e refl (ap (λ (l : List ℕ). l ∷ []) (er ∙ rw (ex, ey)))

  pub report_done : (start count : ℕ) → 0 ≡ first_refusal (report_checks (length room) start count)
      → room₁ ≡ eight 0x51 1 start count ++ drop 8 room
      → out (answer (8 ∷ [])) (room₁ ∷ []) ≡ built_out (first_refusal (report_checks (length room) start count)) (report_request start count) room
  report_done start count e er = gives _ _ _ _ _ _ e refl (ap (λ (l : List ℕ). l ∷ []) er)

-- a request that an inner function wrote
pub built : (bytes room room₁ : List ℕ) (n m : ℕ) → 0 ≡ n → m ≡ length bytes → room₁ ≡ bytes ++ drop (length bytes) room
    → out (answer (m ∷ [])) (room₁ ∷ []) ≡ built_out n bytes room
built bytes room room₁ n m e el er = gives _ _ n _ _ _ e (ap (λ (k : ℕ). answer (k ∷ [])) el) (ap (λ (l : List ℕ). l ∷ []) er)

-- what the checks of single and report leave
module _ (room a b : ℕ) (e : 0 ≡ first_refusal (single_checks room a b)) where
  pub single_room : 12 ≤ room
  single_room = let k = clear (single_checks room a b) 0 e refl tt in omega arith

  pub single_fits : (x : ℕ) → x ≤ 1 → Fits w8 (128 * x + b)
  single_fits x h = let k = clear (single_checks room a b) 0 e refl tt in omega arith

pub report_room : (room start count : ℕ) → 0 ≡ first_refusal (report_checks room start count) → 8 ≤ room
report_room room start count e = let k = clear (report_checks room start count) 0 e refl tt in omega arith
