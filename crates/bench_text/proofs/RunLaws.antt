-- A run over the whole events of a window: its steps, where it stops, and the loop that makes it.
-- Assumes nothing.
use mathlib.Core.Path.{◌≡◌, refl, sym, ap, ◌∙◌, subst}
use Rattle.std.specs.Prelude.{Option, MatchOption}
use mathlib.Core.List.{List, [], ◌∷◌, ◌++◌, append-nil, append_assoc}
use Prim.Native.Nat.{ℕ, zero, suc, ◌+◌, ◌-◌, ◌≤◌, ◌<◌}
use native.Mathlib.Nat.{add-zero, zero-add, add_assoc, sub-zero, sub_self}
use native.Mathlib.Decide.{dec_lt}
use native.Mathlib.Omega.{arith}
use borrow.Author.Tests.{eq-eqb, ne_eqb, lt-ltb, le-ltb}
use lib.ListN.{length, take, drop, length-drop, drop_of_length-le}
use lib.Seq.{take_all, drop-drop, sets-eq}
use Rattle.lines.specs.Text.{line}
use Rattle.call_words.specs.Gives.{Given}
use Rattle.events.specs.Events.{event_gives, event_length}
use Rattle.lines.specs.Words.{T}
use Rattle.lines.specs.Written.{written, Wrote}
use Rattle.events.specs.Inner.{Lined}
use Rattle.lines.proofs.Lines.{behind}
use Rattle.bench_text.specs.Stream.{ending}
use Rattle.bench_text.specs.Run.{Ran, stopped, onward, ready, run_of, run_over, Put, Told, Within}
use Rattle.bench_text.proofs.StreamLaws.{whole_event}

-- ---- the event that is run next
pub no_room : (room : ℕ) (bytes : List ℕ) → room < 64 → ready room bytes ≡ 0
unfolding ready
no_room room bytes h = rw (lt-ltb _ _ h)

pub has_room : (room : ℕ) (bytes : List ℕ) (r : Option ℕ) → 64 ≤ room
    → MatchOption r (event_length bytes ≡ 0) (λ n. (n ≡ event_length bytes) × (0 < n) × (n ≤ length bytes))
    → MatchOption r (ready room bytes ≡ 0) (λ n. (n ≡ ready room bytes) × (0 < n) × (n ≤ length bytes))
unfolding ready
has_room room bytes r h e =
    let same : event_length bytes ≡ ready room bytes = rw (le-ltb room 64 h) in
    subst (λ (k : ℕ). MatchOption r (k ≡ 0) (λ n. (n ≡ k) × (0 < n) × (n ≤ length bytes))) same e

-- one that is run is whole, and its line has room
pub record Next (room : ℕ) (bytes : List ℕ) (n : ℕ) : Type 0 where
  pub fits : 64 ≤ room
  pub is : event_length bytes ≡ n
  pub least : 5 ≤ n
  pub there : n ≤ length bytes

pub next_is : (room : ℕ) (bytes : List ℕ) (n : ℕ) → n ≡ ready room bytes → 0 < n → Next room bytes n
unfolding ready
next_is room bytes n e z = go (dec_lt room 64)
  where
    go : Dec (room < 64) → Next room bytes n
    go (yes l) = let q : n ≡ 0 = e ∙ rw (lt-ltb _ _ l) in absurd (omega arith)
    go (no l) =
        let h : 64 ≤ room = omega arith in
        let q : n ≡ event_length bytes = e ∙ rw (le-ltb _ _ h) in
        let w = whole_event bytes (λ (y : event_length bytes ≡ 0). omega arith) in
        let s = w.says in
        let t = w.there in
        record { fits = h; is = sym q; least = omega arith; there = omega arith }

-- ---- a run's steps
pub run_none : (most : ℕ) (bytes : List ℕ) (number room : ℕ) (phys permissions : List ℕ) → 0 ≡ ready room bytes
    → run_of most bytes number room phys permissions ≡ stopped number phys permissions
unfolding run_of
run_none zero bytes number room phys permissions e = refl
run_none (suc most) bytes number room phys permissions e = rw (eq-eqb (ready room bytes) 0 (sym e))

pub run_step : (most : ℕ) (bytes : List ℕ) (number room : ℕ) (phys permissions : List ℕ) (n : ℕ) → n ≡ ready room bytes → 0 < n
    → run_of (suc most) bytes number room phys permissions
    ≡ onward n (line number (event_gives (take n bytes) phys permissions).said)
    (run_of most (drop n bytes) (number + 1) (room - length (line number (event_gives (take n bytes) phys permissions).said))
    (event_gives (take n bytes) phys permissions).phys (event_gives (take n bytes) phys permissions).permissions)
unfolding run_of
run_step most bytes number room phys permissions n e z =
    rw (ne_eqb (ready room bytes) 0 (λ (y : ready room bytes ≡ 0). omega arith), (next_is room bytes n e z).is)

onward_twice : (a b : ℕ) (x y : List ℕ) (r : Ran) → onward a x (onward b y r) ≡ onward (a + b) (x ++ y) r
onward_twice a b x y r = rw (add_assoc a b r.taken, append_assoc x y r.lines)

-- ---- the loop: what is run so far and what is left to run are the whole run
pub record Going (window : List ℕ) (number₀ : ℕ) (text₀ phys₀ permissions₀ phys permissions text : List ℕ) (at number used : ℕ) : Type 0 where
  pub out : List ℕ
  pub said : Wrote text₀ 0 out used text
  pub same : length text ≡ length text₀
  pub same_phys : length phys ≡ length phys₀
  pub same_permissions : length permissions ≡ length permissions₀
  pub room : used ≤ length text
  pub inside : at ≤ length window
  pub from : number₀ ≤ number
  pub events : number ≤ number₀ + at
  pub left : run_over window number₀ (length text₀) phys₀ permissions₀
      ≡ onward at out (run_of (length window - (number - number₀)) (drop at window) number (length text - used) phys permissions)

pub going_start : (window : List ℕ) (number : ℕ) (text phys permissions : List ℕ) → Going window number text phys permissions phys permissions text 0 number 0
unfolding written
going_start window number text phys permissions = record {
  out = [];
  said = record { ends = refl; wrote = refl };
  same = refl;
  same_phys = refl;
  same_permissions = refl;
  room = omega arith;
  inside = omega arith;
  from = omega arith;
  events = omega arith;
  left = rw (sub-zero (length text), sub_self number, sub-zero (length window), zero-add);
}

-- the bytes from `at` on, as the code has them
rest : (window : List ℕ) (at : ℕ) → take (length window - at) (drop at window) ≡ drop at window
rest window at = take_all _ _ (simp length-drop (omega arith))

module _ (window text : List ℕ) (at used : ℕ) where
  -- the event that is run next is whole, and the text has room for a line
  pub next_at : (n : ℕ) → n ≡ ready (length text - used) (take (length window - at) (drop at window)) → 0 < n → Next (length text - used) (drop at window) n
  next_at n e z = next_is (length text - used) (drop at window) n (rw (rest window at) at e) z

module _ (window : List ℕ) (number₀ : ℕ) (text₀ phys₀ permissions₀ phys permissions text : List ℕ) (at number used : ℕ) where
  pub going_again : (n used₁ : ℕ) (text₁ phys₁ permissions₁ : List ℕ)
      → (n ≡ ready (length text - used) (take (length window - at) (drop at window))) × (0 < n) × (n ≤ length (take (length window - at) (drop at window)))
      → Put number (event_gives (take (at + n - at) (drop at window)) phys permissions) text used used₁ text₁ phys₁ permissions₁
      → length text₁ ≡ length text → length phys₁ ≡ length phys → length permissions₁ ≡ length permissions
      → Going window number₀ text₀ phys₀ permissions₀ phys permissions text at number used
      → Going window number₀ text₀ phys₀ permissions₀ phys₁ permissions₁ text₁ (at + n) (number + 1) used₁
  going_again n used₁ text₁ phys₁ permissions₁ e p same same_phys same_permissions r =
      let i = r.inside in
      let x = next_at window text at used n e.0 e.1 in
      let least = x.least in
      let there : n + at ≤ length window = omega (arith, x.there, length-drop at window) in
      let m = length window - (number + 1 - number₀) in
      let g = event_gives (take n (drop at window)) phys permissions in
      let s : at + n - at ≡ n = omega arith in
      let q = rw s at p in
      let fuel : length window - (number - number₀) ≡ suc m = omega (arith, r.from, r.events) in
      let less_room : length text - used - length (line number g.said) ≡ length text₁ - used₁ = omega (arith, q.said.ends) in
      record {
        out = r.out ++ line number g.said;
        said = behind r.said q.said;
        same = same ∙ r.same;
        same_phys = same_phys ∙ r.same_phys;
        same_permissions = same_permissions ∙ r.same_permissions;
        room = omega (arith, q.short);
        inside = omega arith;
        from = omega (arith, r.from);
        events = omega (arith, r.events);
        left =
            r.left
            ∙ ap (λ (k : ℕ). onward at r.out (run_of k (drop at window) number (length text - used) phys permissions)) fuel
            ∙ ap (onward at r.out) (run_step m (drop at window) number (length text - used) phys permissions n (rw (rest window at) at e.0) e.1)
            ∙ onward_twice at n r.out (line number g.said) _
            ∙ rw (drop-drop n at window, less_room, q.phys, q.permissions);
      }

  pub going_end : ready (length text - used) (take (length window - at) (drop at window)) ≡ 0
      → Going window number₀ text₀ phys₀ permissions₀ phys permissions text at number used
      → Told (run_over window number₀ (length text₀) phys₀ permissions₀) text₀ at number used text phys permissions
      × Within window text₀ number₀ at number used
  going_end z r =
      let e : run_over window number₀ (length text₀) phys₀ permissions₀ ≡ onward at r.out (stopped number phys permissions) =
      r.left ∙ ap (onward at r.out) (run_none _ (drop at window) number (length text - used) phys permissions (sym (rw (rest window at) at z))) in (
        record {
          taken = sym (ap (λ (x : Ran). x.taken) e ∙ add-zero at);
          number = sym (ap (λ (x : Ran). x.number) e);
          said = rw (ap (λ (x : Ran). x.lines) e ∙ append-nil r.out) r.said;
          phys = sym (ap (λ (x : Ran). x.phys) e);
          permissions = sym (ap (λ (x : Ran). x.permissions) e);
        },
        record { bytes = omega (arith, r.inside); from = r.from; events = r.events; room = omega (arith, r.room, r.same) },
      )

-- ---- a line in a part of the text
part_put : (t l : List ℕ) (u : ℕ) → u + length l ≤ length t
    → take u t ++ (written (take (length t - u) (drop u t)) 0 l ++ drop (length t - u) (drop u t)) ≡ written t u l
unfolding written
part_put t l u h =
    let d : length (drop u t) ≤ length t - u = simp length-drop (omega arith) in
    let e : 0 + length l ≤ length (drop u t) = simp length-drop (omega arith) in
    rw (
      take_all (length t - u) (drop u t) d,
      drop_of_length-le (drop u t) {i = length t - u} d,
      append-nil,
      sets-eq l (drop u t) 0 e,
      sets-eq l t u h,
      zero-add (length l),
      drop-drop (length l) u t,
    )
    (sym (append_assoc (take u t) l (drop (u + length l) t)))

pub put_done : (number : ℕ) (g : Given) (text : List ℕ) (used n : ℕ) (part phys permissions : List ℕ) → used + 64 ≤ length text
    → Lined number g (take (length text - used) (drop used text)) n part phys permissions
    → Put number g text used (used + n) (take used text ++ (part ++ drop (length text - used) (drop used text))) phys permissions
put_done number g text used n part phys permissions h r =
    let e = r.said.ends in
    let s = r.short in
    record {
      said = record {
        ends = omega arith;
        wrote = rw r.said.wrote (part_put text (line number g.said) used (omega arith));
      };
      short = omega arith;
      phys = r.phys;
      permissions = r.permissions;
    }

-- ---- the end of the input
pub end_none : (rest : List ℕ) (number : ℕ) (text : List ℕ) → length rest ≡ 0 → Wrote text 0 (ending number rest) 0 text × (0 ≤ length text)
unfolding ending written
end_none [] number text e = (record { ends = refl; wrote = refl }, omega arith)
end_none (b ∷ bs) number text e = absurd (omega arith)

pub end_cut : (rest : List ℕ) (number : ℕ) (text : List ℕ) (end : ℕ) (text₁ : List ℕ) → (length rest ≡ 0 → ⊥) → 64 ≤ length text
    → Wrote text 0 (line number (T ∷ [])) end text₁ × (end ≤ 64) → Wrote text 0 (ending number rest) end text₁ × (end ≤ length text)
unfolding ending
end_cut [] number text end text₁ n h w = absurd (n refl)
end_cut (b ∷ bs) number text end text₁ n h w = (w.0, omega arith)
