-- `warden_text::put_groups` meets its contract.
use Prim.Native.Nat.{◌+◌, ◌*◌, ◌≤◌}
use Rattle.warden_text.proofs.put_groups.Given as goal

abbrev pub invariant-loop-group : goal.invariant-loop-group
invariant-loop-group l = (l.from ≤ l.at) × (l.at ≤ l.from + 6 * l.group)
