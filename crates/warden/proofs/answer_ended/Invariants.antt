-- `warden::answer_ended` is safe and ends: the number of the next line is at most that of the turn, so it fits.
use Rattle.std.proofs.Common.{◌≤◌, length}
use Rattle.warden.proofs.answer_ended.Given as goal

-- of what is unread, `at` is `.0`, `have` is `.1.0` and `number` is `.1.1.0`
abbrev pub invariant-loop-turn : goal.invariant-loop-turn
invariant-loop-turn g l = (l.unread.1.1.0 ≤ l._turn) × (l.unread.0 ≤ l.unread.1.0) × (l.unread.1.0 ≤ length l.window)
