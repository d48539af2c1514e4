-- The text of a list of bytes, event by event, and the event at its front.
-- Assumes nothing.
use mathlib.Core.Path.{◌≡◌, refl, sym, ap, ◌∙◌}
use mathlib.Core.List.{List, [], ◌∷◌, ◌++◌}
use Prim.Native.Nat.{ℕ, zero, suc, ◌+◌, ◌*◌, ◌≤◌, ◌<◌}
use native.Mathlib.Decide.{ℕ_discrete, dec_lt}
use native.Mathlib.Omega.{arith}
use borrow.Author.Tests.{eq-eqb, ne_eqb, lt-ltb, le-ltb}
use lib.ListN.{length, drop, get_or, length-append, length-drop, get_or-append}
use Rattle.lines.specs.Text.{line}
use Rattle.events.specs.Events.{event_length}
use Rattle.bench_text.specs.Stream.{ending, front_gives, lines_of, events_text}

-- a whole event: it is as long as its header says, and all of it is there
pub record WholeEvent (bytes : List ℕ) : Type 0 where
  pub says : event_length bytes ≡ 5 + (get_or bytes 3 0 * 256 + get_or bytes 4 0)
  pub there : 5 + (get_or bytes 3 0 * 256 + get_or bytes 4 0) ≤ length bytes

pub whole_event : (bytes : List ℕ) → (event_length bytes ≡ 0 → ⊥) → WholeEvent bytes
unfolding event_length
whole_event bytes n = go (dec_lt (length bytes) 5) (dec_lt (length bytes) (5 + (get_or bytes 3 0 * 256 + get_or bytes 4 0)))
  where
    go : Dec (length bytes < 5) → Dec (length bytes < 5 + (get_or bytes 3 0 * 256 + get_or bytes 4 0)) → WholeEvent bytes
    go (yes l) d = absurd (n (rw (lt-ltb _ _ l)))
    go (no l) (yes m) = absurd (n (rw (le-ltb (length bytes) 5 (omega arith), lt-ltb _ _ m)))
    go (no l) (no m) =
        let a : 5 ≤ length bytes = omega arith in
        let b : 5 + (get_or bytes 3 0 * 256 + get_or bytes 4 0) ≤ length bytes = omega arith in
        record { says = rw (le-ltb _ _ a, le-ltb _ _ b); there = b }

-- it is the same event whatever bytes follow
pub front_same : (bytes more : List ℕ) → WholeEvent bytes → event_length (bytes ++ more) ≡ event_length bytes
unfolding event_length
front_same bytes more w =
    let m = w.there in
    let a : 5 ≤ length (bytes ++ more) = simp length-append (omega arith) in
    let b : 5 + (get_or bytes 3 0 * 256 + get_or bytes 4 0) ≤ length (bytes ++ more) = simp length-append (omega arith) in
    rw (le-ltb _ _ a, get_or-append bytes more 0 3 (omega arith), get_or-append bytes more 0 4 (omega arith), le-ltb _ _ b) (sym w.says)

-- the count of events that bounds the recursion does not matter once it is the number of bytes
pub enough : (m n : ℕ) (bytes : List ℕ) (number : ℕ) (phys permissions : List ℕ) → length bytes ≤ m → length bytes ≤ n
    → lines_of m bytes number phys permissions ≡ lines_of n bytes number phys permissions
unfolding lines_of event_length ending
enough zero zero bytes number phys permissions p q = refl
enough zero (suc n) [] number phys permissions p q = refl
enough zero (suc n) (b ∷ bs) number phys permissions p q = absurd (omega arith)
enough (suc m) zero [] number phys permissions p q = refl
enough (suc m) zero (b ∷ bs) number phys permissions p q = absurd (omega arith)
enough (suc m) (suc n) bytes number phys permissions p q =
    go
    (enough m n (drop (event_length bytes) bytes) (number + 1) (front_gives bytes phys permissions).phys (front_gives bytes phys permissions).permissions)
    (ℕ_discrete (event_length bytes) 0)
  where
    go : (length (drop (event_length bytes) bytes) ≤ m → length (drop (event_length bytes) bytes) ≤ n
        → lines_of m (drop (event_length bytes) bytes) (number + 1) (front_gives bytes phys permissions).phys (front_gives bytes phys permissions).permissions
        ≡ lines_of n (drop (event_length bytes) bytes) (number + 1) (front_gives bytes phys permissions).phys (front_gives bytes phys permissions).permissions)
        → Dec (event_length bytes ≡ 0) → lines_of (suc m) bytes number phys permissions ≡ lines_of (suc n) bytes number phys permissions
    go next (yes e) = rw (eq-eqb (event_length bytes) 0 e)
    go next (no e) =
        let w = whole_event bytes e in
        let s = w.says in
        rw (ne_eqb (event_length bytes) 0 e)
        (ap (λ (l : List ℕ). line number (front_gives bytes phys permissions).said ++ l)
        (next (simp length-drop (omega arith)) (simp length-drop (omega arith))))

module _ (bytes : List ℕ) (number : ℕ) (phys permissions : List ℕ) where
  one_more : events_text bytes number phys permissions ≡ lines_of (suc (length bytes)) bytes number phys permissions
  one_more = enough (length bytes) (suc (length bytes)) bytes number phys permissions (omega arith) (omega arith)

  -- where no whole event is at the front, the text is the end's
  pub text_end : event_length bytes ≡ 0 → events_text bytes number phys permissions ≡ ending number bytes
  unfolding lines_of
  text_end e = one_more ∙ rw (eq-eqb (event_length bytes) 0 e)

  -- a whole event's line, and then the text of what follows it
  pub text_step : (event_length bytes ≡ 0 → ⊥)
      → events_text bytes number phys permissions
      ≡ line number (front_gives bytes phys permissions).said
      ++ events_text (drop (event_length bytes) bytes) (number + 1) (front_gives bytes phys permissions).phys (front_gives bytes phys permissions).permissions
  unfolding lines_of
  text_step e =
      one_more
      ∙ rw (ne_eqb (event_length bytes) 0 e)
      (ap (λ (l : List ℕ). line number (front_gives bytes phys permissions).said ++ l)
      (enough (length bytes) (length (drop (event_length bytes) bytes)) (drop (event_length bytes) bytes) (number + 1)
      (front_gives bytes phys permissions).phys (front_gives bytes phys permissions).permissions
      (simp length-drop (omega arith)) (omega arith)))
