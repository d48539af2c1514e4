-- A part of one buffer copied into another: the loop, and what stands there after.
-- Assumes nothing.
use mathlib.Core.Path.{◌≡◌, refl, sym, ap, ◌∙◌}
use mathlib.Core.List.{List, ◌++◌}
use Prim.Native.Nat.{ℕ, ◌+◌, ◌-◌, ◌≤◌, ◌<◌}
use native.Mathlib.Numerals.{add-one}
use native.Mathlib.Omega.{arith}
use lib.ListN.{length, take, drop, get_or, set, length-set, length-drop, get_or-append}
use lib.Seq.{paste, paste-zero, paste-suc, length_paste_head, length-take-le, get_or-take, get_or-drop, get_or-append-add}

-- the first k of n bytes of s, from `from` on, stand in d at `at`; all else is d₀'s
pub record Pasted (d₀ : List ℕ) (at : ℕ) (s : List ℕ) (from n : ℕ) (d : List ℕ) (k : ℕ) : Type 0 where
  pub room : at + n ≤ length d₀
  pub source : from + n ≤ length s
  pub within : k ≤ n
  pub same : length d ≡ length d₀
  pub pasted : d ≡ paste d₀ at (drop from s) k

module _ (d₀ : List ℕ) (at : ℕ) (s : List ℕ) (from n : ℕ) where
  pub copy_start : at + n ≤ length d₀ → from + n ≤ length s → Pasted d₀ at s from n d₀ 0
  copy_start hd hs = record { room = hd; source = hs; within = omega arith; same = refl; pasted = paste-zero d₀ at (drop from s) }

  pub copy_again : (d : List ℕ) (k : ℕ) → k < n → Pasted d₀ at s from n d k
      → Pasted d₀ at s from n (set d (at + k) (get_or s (from + k) 0)) (k + 1)
  copy_again d k h r = record {
    room = r.room;
    source = r.source;
    within = omega arith;
    same = length-set d (at + k) (get_or s (from + k) 0) ∙ r.same;
    pasted =
        rw (r.pasted, ← get_or-drop from s k 0, add-one k)
        (paste-suc d₀ at (drop from s) k 0 (omega arith) (omega (arith, length-drop from s)));
  }

  pub copy_end : (d : List ℕ) (k : ℕ) → n ≤ k → Pasted d₀ at s from n d k → d ≡ paste d₀ at (drop from s) n
  copy_end d k h r =
      let l = r.within in
      let e : k ≡ n = omega arith in
      r.pasted ∙ ap (paste d₀ at (drop from s)) e

-- ---- what stands in a copy
module _ (d : List ℕ) (at : ℕ) (s : List ℕ) (n : ℕ) (room : at + n ≤ length d) (source : n ≤ length s) where
  head : length (take at d ++ take n s) ≡ at + n
  head = length_paste_head d at s n (omega arith) source

  pub paste_new : (m : ℕ) → m < n → get_or (paste d at s n) (at + m) 0 ≡ get_or s m 0
  paste_new m h =
      let e : length (take at d) ≡ at = length-take-le at d (omega arith) in
      get_or-append (take at d ++ take n s) (drop (at + n) d) 0 (at + m) (omega (arith, head))
      ∙ ap (λ (i : ℕ). get_or (take at d ++ take n s) (i + m) 0) (sym e)
      ∙ get_or-append-add (take at d) (take n s) m 0
      ∙ get_or-take n s m 0 h

  pub paste_below : (m : ℕ) → m < at → get_or (paste d at s n) m 0 ≡ get_or d m 0
  paste_below m h =
      get_or-append (take at d ++ take n s) (drop (at + n) d) 0 m (omega (arith, head))
      ∙ get_or-append (take at d) (take n s) 0 m (omega (arith, length-take-le at d (omega arith)))
      ∙ get_or-take at d m 0 h

  pub paste_above : (m : ℕ) → at + n ≤ m → get_or (paste d at s n) m 0 ≡ get_or d m 0
  paste_above m h =
      let e : length (take at d ++ take n s) + (m - (at + n)) ≡ m = omega (arith, head) in
      let q : at + n + (m - (at + n)) ≡ m = omega arith in
      ap (λ (i : ℕ). get_or (paste d at s n) i 0) (sym e)
      ∙ get_or-append-add (take at d ++ take n s) (drop (at + n) d) (m - (at + n)) 0
      ∙ get_or-drop (at + n) d (m - (at + n)) 0
      ∙ ap (λ (i : ℕ). get_or d i 0) q
