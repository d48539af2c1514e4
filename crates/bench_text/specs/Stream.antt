-- The text that a list of input bytes gives.
use Rattle.std.specs.Prelude.{cond, List, [], ◌∷◌, ◌++◌, ℕ, zero, suc, ◌+◌, eqb, length, take, drop}
use Rattle.permit.specs.Permission.{start_table}
use Rattle.rack.specs.Rack.{rack_table}
use Rattle.lines.specs.Text.{line}
use Rattle.lines.specs.Words.{T, first_line}
use Rattle.call_words.specs.Gives.{Given}
use Rattle.events.specs.Events.{event_gives, event_length}

-- "A cut-off last event, of any kind, prints number and T.": of bytes with no whole event at their front
unfoldable pub ending : ℕ → List ℕ → List ℕ
ending number [] = []
ending number (b ∷ bs) = line number (T ∷ [])

-- "per event a kind .., phy, carried group, two length bytes (big-endian), payload": what the whole event at the front of `bytes` gives
abbrev pub front_gives : List ℕ → List ℕ → List ℕ → Given
front_gives bytes phys permissions = event_gives (take (event_length bytes) bytes) phys permissions

-- a line for each event, one number after another, each event on the tables that the one before it left; at most `most` events
unfoldable pub lines_of : ℕ → List ℕ → ℕ → List ℕ → List ℕ → List ℕ
lines_of zero bytes number phys permissions = []
lines_of (suc most) bytes number phys permissions =
    cond (eqb (event_length bytes) 0) (ending number bytes)
    (line number (front_gives bytes phys permissions).said
    ++ lines_of most (drop (event_length bytes) bytes) (number + 1)
    (front_gives bytes phys permissions).phys (front_gives bytes phys permissions).permissions)

-- an event has five bytes at least, so there are no more events than bytes
abbrev pub events_text : List ℕ → ℕ → List ℕ → List ℕ → List ℕ
events_text bytes number phys permissions = lines_of (length bytes) bytes number phys permissions

-- "The first line is fixed. Then, .. number from 1", on the bench rack with "permissions as at start-up"
unfoldable pub whole_text : List ℕ → List ℕ
whole_text bytes = first_line ++ events_text bytes 1 rack_table (start_table 16)
