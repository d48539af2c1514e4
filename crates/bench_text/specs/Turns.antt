-- The bench as turns: bytes come in behind those that wait, and runs take the whole events off their front.
use Rattle.std.specs.Prelude.{◌≡◌, List, [], ◌∷◌, ◌++◌, ℕ, drop}
use Rattle.events.specs.Events.{event_length}
use Rattle.bench_text.specs.Stream.{ending, whole_text}
use Rattle.bench_text.specs.Run.{Ran, begun, run_over}

-- these bytes were read; or a run was made over all that wait, into a text of so many bytes
pub data Turn : Type 0 where
  bytes : List ℕ → Turn
  run : ℕ → Turn

-- the bytes that wait, the next event's number, and both tables
pub record Stage : Type 0 where
  pub waits : List ℕ
  pub number : ℕ
  pub phys : List ℕ
  pub permissions : List ℕ

-- no byte was read yet
abbrev pub start : Stage
start = record { waits = []; number = begun.number; phys = begun.phys; permissions = begun.permissions }

abbrev pub ran_at : Stage → ℕ → Ran
ran_at s room = run_over s.waits s.number room s.phys s.permissions

abbrev pub after : Turn → Stage → Stage
after (bytes bs) s = record { waits = s.waits ++ bs; number = s.number; phys = s.phys; permissions = s.permissions }
after (run room) s = record {
  waits = drop (ran_at s room).taken s.waits;
  number = (ran_at s room).number;
  phys = (ran_at s room).phys;
  permissions = (ran_at s room).permissions;
}

unfoldable pub stage_after : List Turn → Stage → Stage
stage_after [] s = s
stage_after (t ∷ ts) s = stage_after ts (after t s)

-- all bytes that were read
unfoldable pub came_in : List Turn → List ℕ
came_in [] = []
came_in (bytes bs ∷ ts) = bs ++ came_in ts
came_in (run room ∷ ts) = came_in ts

-- all lines of the runs, in their order
unfoldable pub said_in : List Turn → Stage → List ℕ
said_in [] s = []
said_in (bytes bs ∷ ts) s = said_in ts (after (bytes bs) s)
said_in (run room ∷ ts) s = (ran_at s room).lines ++ said_in ts (after (run room) s)

-- In whatever pieces the input came and whatever the runs' texts had room for: once no whole event waits, the first line, the runs' lines and
-- the end are the whole text of all that came.
abbrev pub WholeText : Type 0
WholeText =
    (ts : List Turn) → event_length (stage_after ts start).waits ≡ 0
    → begun.lines ++ said_in ts start ++ ending (stage_after ts start).number (stage_after ts start).waits ≡ whole_text (came_in ts)
