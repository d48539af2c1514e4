-- Bytes moved to the front of the list that they stand in.
-- Assumes nothing.
use mathlib.Core.Path.{◌≡◌, sym, ap, ◌∙◌}
use mathlib.Core.List.{List, ◌++◌}
use Prim.Native.Nat.{ℕ, ◌+◌, ◌-◌, ◌≤◌}
use native.Mathlib.Omega.{arith}
use lib.ListN.{length, take, drop, length-drop}
use borrow.Rule.Slice.PartMut.{put_mid}
use lib.Seq.{paste, length-take-le}
use Rattle.std.proofs.lemmas.List.{take_at}
use Rattle.std.proofs.lemmas.List.Edits.{sets-eq}
use Rattle.std.proofs.lemmas.Slice.{take-put_mid_below}
use Rattle.lines.specs.Written.{written}

-- a copy to the front, as the library says it, is these bytes written there
pub copied : (window window₁ : List ℕ) (from n : ℕ) → from + n ≤ length window → window₁ ≡ paste window 0 (drop from window) (from + n - from)
    → window₁ ≡ written window 0 (take n (drop from window))
unfolding written
copied window window₁ from n h e =
    let vs = take n (drop from window) in
    let s : from + n - from ≡ n = omega arith in
    let long : n ≤ length (drop from window) = simp length-drop (omega arith) in
    let l : length vs ≡ n = length-take-le n (drop from window) long in
    rw s at e ∙ sym (sets-eq vs window 0 (omega arith) ∙ ap (λ (m : ℕ). vs ++ drop (0 + m) window) l)

-- n bytes that were moved to the front stand there whatever is read behind them
pub kept_front : (window₀ window read : List ℕ) (at n k : ℕ) → at + n ≤ length window₀ → window ≡ written window₀ 0 (take n (drop at window₀)) → length window ≡ length window₀
    → take n (put_mid n k window read) ≡ take n (drop at window₀)
unfolding written
kept_front window₀ window read at n k h e same =
    let vs = take n (drop at window₀) in
    let long : n ≤ length (drop at window₀) = simp length-drop (omega arith) in
    let l : length vs ≡ n = length-take-le n (drop at window₀) long in
    take-put_mid_below n k window read n (omega arith) (omega arith) ∙ ap (take n) e ∙ ap (take n) (sets-eq vs window₀ 0 (omega arith))
    ∙ take_at vs (drop (0 + length vs) window₀) n l
