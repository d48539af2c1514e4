-- What the two halves of a batch row leave: the row itself, and then its column.
use Rattle.std.specs.Prelude.{◌≡◌, Bool, cond, ◌&&◌, List, ℕ, ◌%◌, ◌≤◌, ◌<◌, eqb, leb, ltb, length}
use Rattle.wire.specs.Bits.{bit}
use Rattle.permit.specs.Permission.{groups, table_size, P}

-- row r of u says f from group 2 on; all else is t's
pub record RowIs (w : ℕ) (f : ℕ → Bool) (r : ℕ) (t u : List ℕ) : Type 0 where
  pub sized : length u ≡ length t
  pub says : (c d : ℕ) → c < groups w → d < groups w → P w u c d ≡ cond (eqb c r && leb 2 d) (f d) (P w t c d)

-- the rows from 2 on say f of group r; all else is t's
pub record ColumnIs (w : ℕ) (f : ℕ → Bool) (r : ℕ) (t u : List ℕ) : Type 0 where
  pub sized : length u ≡ length t
  pub says : (c d : ℕ) → c < groups w → d < groups w → P w u c d ≡ cond (eqb d r && leb 2 c) (f c) (P w t c d)

-- the rows from lo to below j say f of group r; all else is t's
pub record ColumnTo (w : ℕ) (f : ℕ → Bool) (r lo : ℕ) (t u : List ℕ) (j : ℕ) : Type 0 where
  pub from : lo ≤ j
  pub up_to : j ≤ groups w
  pub whole : length u ≡ table_size w
  pub sized : length u ≡ length t
  pub says : (c d : ℕ) → c < groups w → d < groups w → P w u c d ≡ cond (eqb d r && (leb lo c && ltb c j)) (f c) (P w t c d)

-- group j in its byte x of a row
unfoldable pub byte_has : ℕ → ℕ → Bool
byte_has x j = eqb (bit x (j % 8)) 1
