-- `warden_text::put_rows` meets its contract.
use Prim.Native.Nat.{◌+◌, ◌*◌, ◌≤◌}
use Rattle.warden_text.proofs.put_rows.Given as goal

abbrev pub invariant-loop-row : goal.invariant-loop-row
invariant-loop-row l = l.at ≤ 64 + 775 * l.row
