-- A run over the whole events at the front of a window: what it takes, what it writes, and the tables that it leaves.
use Rattle.std.specs.Prelude.{◌≡◌, cond, List, [], ◌++◌, ℕ, zero, suc, ◌+◌, ◌-◌, ◌≤◌, eqb, ltb, length, drop}
use Rattle.permit.specs.Permission.{start_table}
use Rattle.rack.specs.Rack.{rack_table}
use Rattle.lines.specs.Text.{line}
use Rattle.lines.specs.Words.{first_line}
use Rattle.call_words.specs.Gives.{Given}
use Rattle.events.specs.Events.{event_length}
use Rattle.lines.specs.Written.{Wrote}
use Rattle.bench_text.specs.Stream.{front_gives}

-- how many bytes a run took, the number of the event after them, the lines of those in them, and both tables
pub record Ran : Type 0 where
  pub taken : ℕ
  pub number : ℕ
  pub lines : List ℕ
  pub phys : List ℕ
  pub permissions : List ℕ

-- "The first line is fixed.", "number from 1", on the bench rack with "permissions as at start-up": what there is before any event
abbrev pub begun : Ran
begun = record { taken = 0; number = 1; lines = first_line; phys = rack_table; permissions = start_table 16 }

abbrev pub stopped : ℕ → List ℕ → List ℕ → Ran
stopped number phys permissions = record { taken = 0; number = number; lines = []; phys = phys; permissions = permissions }

-- a run that took n bytes and wrote a line before it went on as r
abbrev pub onward : ℕ → List ℕ → Ran → Ran
onward n line r = record {
  taken = n + r.taken;
  number = r.number;
  lines = line ++ r.lines;
  phys = r.phys;
  permissions = r.permissions;
}

-- how many bytes the event has that is run next: 0 where none is whole at the front, or where a line might not fit the text's room
unfoldable pub ready : ℕ → List ℕ → ℕ
ready room bytes = cond (ltb room 64) 0 (event_length bytes)

-- at most `most` events
unfoldable pub run_of : ℕ → List ℕ → ℕ → ℕ → List ℕ → List ℕ → Ran
run_of zero bytes number room phys permissions = stopped number phys permissions
run_of (suc most) bytes number room phys permissions =
    cond (eqb (ready room bytes) 0) (stopped number phys permissions)
    (onward (event_length bytes) (line number (front_gives bytes phys permissions).said)
    (run_of most (drop (event_length bytes) bytes) (number + 1) (room - length (line number (front_gives bytes phys permissions).said))
    (front_gives bytes phys permissions).phys (front_gives bytes phys permissions).permissions))

-- all that are whole and for which there is room
abbrev pub run_over : List ℕ → ℕ → ℕ → List ℕ → List ℕ → Ran
run_over window number room phys permissions = run_of (length window) window number room phys permissions

-- an event's line in the text from `used` on, and the tables
pub record Put (number : ℕ) (g : Given) (text : List ℕ) (used end : ℕ) (text₁ phys₁ permissions₁ : List ℕ) : Type 0 where
  pub said : Wrote text used (line number g.said) end text₁
  pub short : end ≤ length text
  pub phys : phys₁ ≡ g.phys
  pub permissions : permissions₁ ≡ g.permissions

-- a run's answer, its lines at the front of the text, and the tables
pub record Told (r : Ran) (text : List ℕ) (taken₁ number₁ used₁ : ℕ) (text₁ phys₁ permissions₁ : List ℕ) : Type 0 where
  pub taken : taken₁ ≡ r.taken
  pub number : number₁ ≡ r.number
  pub said : Wrote text 0 r.lines used₁ text₁
  pub phys : phys₁ ≡ r.phys
  pub permissions : permissions₁ ≡ r.permissions

-- how large the answer is at most, for those who go on from it
pub record Within (window text : List ℕ) (number taken number₁ used : ℕ) : Type 0 where
  pub bytes : taken ≤ length window
  pub from : number ≤ number₁
  pub events : number₁ ≤ number + taken
  pub room : used ≤ length text
