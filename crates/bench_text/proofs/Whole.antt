-- The runs and the text agree: `whole_text_lem`.
-- Assumes nothing.
use mathlib.Core.Path.{◌≡◌, refl, sym, ap, ◌∙◌}
use mathlib.Core.Bool.{Bool, true, false, cond}
use mathlib.Core.List.{List, [], ◌∷◌, ◌++◌, append-nil, append_assoc}
use Prim.Native.Nat.{ℕ, zero, suc, ◌+◌, ◌-◌, ◌*◌, ◌≤◌, ◌<◌}
use native.Mathlib.Nat.{sub-zero}
use native.Mathlib.Decide.{ℕ_discrete}
use native.Mathlib.Omega.{arith}
use borrow.Author.Tests.{le-ltb}
use lib.Dec.{ltb}
use lib.ListN.{length, take, drop, get_or, length-append, length-drop}
use lib.Seq.{take-append-le, drop-append-le, drop-drop}
use Rattle.lines.specs.Text.{line}
use Rattle.lines.specs.Words.{first_line}
use Rattle.events.specs.Events.{event_gives, event_length}
use Rattle.bench_text.specs.Stream.{ending, events_text, whole_text}
use Rattle.bench_text.specs.Run.{Ran, ready, run_of, run_over}
use Rattle.bench_text.specs.Turns.{Turn, bytes, run, Stage, start, ran_at, after, stage_after, came_in, said_in, WholeText}
use Rattle.bench_text.proofs.StreamLaws.{whole_event, front_same, text_step, text_end}
use Rattle.bench_text.proofs.RunLaws.{next_is, run_none, run_step}

-- the text that a run leaves to do, where `more` follows its window
abbrev left_by : Ran → List ℕ → List ℕ → List ℕ
left_by r window more = events_text (drop r.taken window ++ more) r.number r.phys r.permissions

-- the event at the front, whatever follows: its line, and the text of the rest
front_text : (window more : List ℕ) (number : ℕ) (phys permissions : List ℕ) (n : ℕ) → event_length window ≡ n → 0 < n → n ≤ length window
    → events_text (window ++ more) number phys permissions
    ≡ line number (event_gives (take n window) phys permissions).said
    ++ events_text (drop n window ++ more) (number + 1) (event_gives (take n window) phys permissions).phys (event_gives (take n window) phys permissions).permissions
front_text window more number phys permissions n e z h =
    let s : event_length (window ++ more) ≡ n = front_same window more (whole_event window (λ (y : event_length window ≡ 0). omega arith)) ∙ e in
    text_step (window ++ more) number phys permissions (λ (y : event_length (window ++ more) ≡ 0). omega arith)
    ∙ rw (s, take-append-le n window more h, drop-append-le n window more h)

-- The lines of a run, and then the text of what it left, are the text of the window and whatever follows it.
pub run_text : (most : ℕ) (window more : List ℕ) (number room : ℕ) (phys permissions : List ℕ)
    → events_text (window ++ more) number phys permissions
    ≡ (run_of most window number room phys permissions).lines ++ left_by (run_of most window number room phys permissions) window more
unfolding run_of
run_text zero window more number room phys permissions = refl
run_text (suc most) window more number room phys permissions =
    go (run_text most) (ℕ_discrete (ready room window) 0)
  where
    go : ((w m : List ℕ) (k r : ℕ) (p q : List ℕ) → events_text (w ++ m) k p q ≡ (run_of most w k r p q).lines ++ left_by (run_of most w k r p q) w m)
        → Dec (ready room window ≡ 0)
        → events_text (window ++ more) number phys permissions
        ≡ (run_of (suc most) window number room phys permissions).lines ++ left_by (run_of (suc most) window number room phys permissions) window more
    go next (yes e) = rw (run_none (suc most) window number room phys permissions (sym e))
    go next (no e) =
        let n = ready room window in
        let z : 0 < n = omega arith in
        let x = next_is room window n refl z in
        let g = event_gives (take n window) phys permissions in
        let l = line number g.said in
        let r = run_of most (drop n window) (number + 1) (room - length l) g.phys g.permissions in
        front_text window more number phys permissions n x.is z x.there
        ∙ ap (λ (t : List ℕ). l ++ t) (next (drop n window) more (number + 1) (room - length l) g.phys g.permissions)
        ∙ sym (append_assoc l r.lines (left_by r (drop n window) more))
        ∙ ap (λ (d : List ℕ). l ++ r.lines ++ events_text (d ++ more) r.number r.phys r.permissions) (drop-drop r.taken n window)
        ∙ sym (ap (λ (y : Ran). y.lines ++ left_by y window more) (run_step most window number room phys permissions n refl z))

-- ---- turns
-- what is said in the turns, and then the text of what waits after them, are the text of all that waited and came
pub turns_text : (ts : List Turn) (s : Stage)
    → events_text (s.waits ++ came_in ts) s.number s.phys s.permissions
    ≡ said_in ts s ++ events_text (stage_after ts s).waits (stage_after ts s).number (stage_after ts s).phys (stage_after ts s).permissions
unfolding stage_after came_in said_in
turns_text [] s = rw append-nil
turns_text (bytes bs ∷ ts) s = rw (← append_assoc s.waits bs (came_in ts)) (turns_text ts (after (bytes bs) s))
turns_text (run room ∷ ts) s =
    run_text (length s.waits) s.waits (came_in ts) s.number room s.phys s.permissions
    ∙ ap (λ (t : List ℕ). (ran_at s room).lines ++ t) (turns_text ts (after (run room) s))
    ∙ sym (append_assoc (ran_at s room).lines (said_in ts (after (run room) s)) _)

pub whole_text_lem : WholeText
unfolding whole_text
whole_text_lem ts e =
    append_assoc first_line (said_in ts start) (ending (stage_after ts start).number (stage_after ts start).waits)
    ∙ ap (λ (t : List ℕ). first_line ++ (said_in ts start ++ t))
    (sym (text_end (stage_after ts start).waits (stage_after ts start).number (stage_after ts start).phys (stage_after ts start).permissions e))
    ∙ ap (λ (t : List ℕ). first_line ++ t) (sym (turns_text ts start))

-- ---- where a run stops
ready_whole : (room : ℕ) (window : List ℕ) → 64 ≤ room → ready room window ≡ event_length window
unfolding ready
ready_whole room window h = rw (le-ltb room 64 h)

-- A run that takes nothing, into a text with room for a line, found no whole event: so the program may ask for bytes, or end.
pub nothing_taken : (window : List ℕ) (number room : ℕ) (phys permissions : List ℕ) → 64 ≤ room
    → (run_over window number room phys permissions).taken ≡ 0 → event_length window ≡ 0
unfolding event_length
nothing_taken [] number room phys permissions h e = refl
nothing_taken (b ∷ bs) number room phys permissions h e = go (ℕ_discrete (ready room (b ∷ bs)) 0)
  where
    go : Dec (ready room (b ∷ bs) ≡ 0) → event_length (b ∷ bs) ≡ 0
    go (yes z) = sym (ready_whole room (b ∷ bs) h) ∙ z
    go (no z) =
        let n = ready room (b ∷ bs) in
        let p : 0 < n = omega arith in
        let s = ap (λ (r : Ran). r.taken) (run_step (length bs) (b ∷ bs) number room phys permissions n refl p) in
        absurd (omega arith)

-- A run stops only where nothing whole is left or the text is full.
pub run_stops : (most : ℕ) (window : List ℕ) (number room : ℕ) (phys permissions : List ℕ) → length window ≤ most
    → ready (room - length (run_of most window number room phys permissions).lines) (drop (run_of most window number room phys permissions).taken window) ≡ 0
unfolding ready event_length run_of
run_stops zero [] number room phys permissions h = never (ltb (room - 0) 64)
  where
    never : (x : Bool) → ◌≡◌ {A = ℕ} (cond x 0 0) 0
    never true = refl
    never false = refl
run_stops zero (b ∷ bs) number room phys permissions h = absurd (omega arith)
run_stops (suc most) window number room phys permissions h =
    go (run_stops most) (ℕ_discrete (ready room window) 0)
  where
    go : ((w : List ℕ) (k x : ℕ) (p q : List ℕ) → length w ≤ most → ready (x - length (run_of most w k x p q).lines) (drop (run_of most w k x p q).taken w) ≡ 0)
        → Dec (ready room window ≡ 0)
        → ready (room - length (run_of (suc most) window number room phys permissions).lines) (drop (run_of (suc most) window number room phys permissions).taken window) ≡ 0
    go next (yes e) =
        ap (λ (y : Ran). ready (room - length y.lines) (drop y.taken window)) (run_none (suc most) window number room phys permissions (sym e))
        ∙ rw sub-zero e
    go next (no e) =
        let n = ready room window in
        let z : 0 < n = omega arith in
        let x = next_is room window n refl z in
        let least = x.least in
        let g = event_gives (take n window) phys permissions in
        let l = line number g.said in
        let r = run_of most (drop n window) (number + 1) (room - length l) g.phys g.permissions in
        let d : length (drop n window) ≤ most = simp length-drop (omega arith) in
        let a : room - length (l ++ r.lines) ≡ room - length l - length r.lines = rw length-append (omega arith) in
        ap (λ (y : Ran). ready (room - length y.lines) (drop y.taken window)) (run_step most window number room phys permissions n refl z)
        ∙ rw (a, ← drop-drop r.taken n window) (next (drop n window) (number + 1) (room - length l) g.phys g.permissions d)

-- A window of 65,540 bytes has a whole event at its front, whatever they are: so one that is larger has room to read while no event is whole.
pub window_enough : (window : List ℕ) → get_or window 3 0 < 256 → get_or window 4 0 < 256 → 65540 ≤ length window → event_length window ≡ 0 → ⊥
unfolding event_length
window_enough window h l n e =
    let a : 5 ≤ length window = omega arith in
    let b : 5 + (get_or window 3 0 * 256 + get_or window 4 0) ≤ length window = omega arith in
    let q : 5 + (get_or window 3 0 * 256 + get_or window 4 0) ≡ 0 = rw (le-ltb _ _ a, le-ltb _ _ b) at e in
    omega arith
