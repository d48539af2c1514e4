-- "a table that isn't as described: not mutual, other rows for groups 0 and 1 than at start-up".
use Rattle.std.specs.Prelude.{Bool, ◌&&◌, ◌||◌, List, ℕ, ◌-◌, leb}
use Rattle.std.specs.Bool.{beq}
use Rattle.wire.specs.Runs.{every}
use Rattle.permit.specs.Permission.{groups, P, start_table}

-- it is, of groups a and b
unfoldable pub fair : ℕ → List ℕ → ℕ → ℕ → Bool
fair w t a b = beq (P w t a b) (P w t b a) && (leb 2 a || beq (P w t a b) (P w (start_table w) a b))

-- of a and every b from a on: so each pair is looked at once, and of groups 0 and 1 each with every group
unfoldable pub fair_row : ℕ → List ℕ → ℕ → Bool
fair_row w t a = every (fair w t a) a (groups w - a)

unfoldable pub described : ℕ → List ℕ → Bool
described w t = every (fair_row w t) 0 (groups w)
