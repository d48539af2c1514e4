-- `whole_input::take_input` ends, and what it filled is what the reader gave.
use Rattle.std.proofs.Common.{◌-◌, ◌≤◌, length, take}
use Rattle.std.specs.Io.KnownBytes.{Consumes}
use Rattle.whole_input.proofs.take_input.Given as goal

abbrev pub invariant-loop-have : goal.invariant-loop-have
invariant-loop-have g l = (l.have ≤ length l.input) × Consumes (g.R.Read.remaining l.initial.reader) (g.R.Read.remaining l.reader) (take l.have l.input)

abbrev pub decreases-loop-have : goal.decreases-loop-have
decreases-loop-have g l = length l.input - l.have
