-- The permission table, as a list of bytes. All is said over the row width w in bytes, so that there are 8 w groups.
-- Document 01 is w = 16: 128 groups, 2,048 bytes. The small shelf is w = 1: 8 groups, 8 bytes.
use Rattle.std.specs.Prelude.{Bool, cond, ◌&&◌, ◌||◌, List, ◌≡◌, ℕ, ◌+◌, ◌-◌, ◌*◌, ◌/◌, ◌%◌, ◌≤◌, ◌<◌, eqb, ltb, length, get_or, set}
use Rattle.wire.specs.Bits.{bit, set_bit, tab}

-- how many groups there are
abbrev pub groups : ℕ → ℕ
groups w = 8 * w

-- how many bytes the table has: a row of w bytes for each group
abbrev pub table_size : ℕ → ℕ
table_size w = groups w * w

-- "Permission table: 2,048 bytes"; of the small shelf "The permission table must be 8 bytes"
abbrev pub permissions_sized : ℕ → List ℕ → Bool
permissions_sized w permissions = eqb (length permissions) (table_size w)

-- "row a at byte 16a. In a row, group j is bit j mod 8 of byte 15 - j/8 (whole division)." The byte of group j in row a:
unfoldable pub place : ℕ → ℕ → ℕ → ℕ
place w a j = a * w + (w - 1 - j / 8)

-- "P(a,b) is that bit in row a, in any table lent."
unfoldable pub P : ℕ → List ℕ → ℕ → ℕ → Bool
P w t a b = eqb (bit (get_or t (place w a b) 0) (b % 8)) 1

-- Whether a reaches b, of any two groups: P where the table holds both. "Groups 8 to 127 reach only group 1 and are reached only by it."
unfoldable pub reaches : ℕ → List ℕ → ℕ → ℕ → Bool
reaches w t a b = cond (ltb a (groups w) && ltb b (groups w)) (P w t a b) (eqb a 1 || eqb b 1)

-- the table with group b of row a made v
unfoldable pub set_P : ℕ → List ℕ → ℕ → ℕ → Bool → List ℕ
set_P w t a b v = set t (place w a b) (set_bit (get_or t (place w a b) 0) (b % 8) v)

-- "written to both places"
unfoldable pub set_both : ℕ → List ℕ → ℕ → ℕ → Bool → List ℕ
set_both w t a b v = set_P w (set_P w t a b v) b a v

-- "Start-up writes the permission table: row 1 is sixteen bytes FFh; every other row is fifteen bytes 00h and then 02h." Its byte i:
unfoldable pub start_byte : ℕ → ℕ → ℕ
start_byte w i = cond (eqb (i / w) 1) 255 (cond (eqb (i % w) (w - 1)) 2 0)

unfoldable pub start_table : ℕ → List ℕ
start_table w = tab (start_byte w) 0 (table_size w)

-- the row widths that inner functions take: at least one byte, at most a request row's sixteen
pub record Width (w : ℕ) : Type 0 where
  pub some : 1 ≤ w
  pub most : w ≤ 16

-- such a width, and a table of its size
pub record Table (w : ℕ) (t : List ℕ) : Type 0 where
  pub some : 1 ≤ w
  pub most : w ≤ 16
  pub sized : length t ≡ table_size w

-- the same, and two groups that the table holds
pub record Whole (w : ℕ) (t : List ℕ) (a b : ℕ) : Type 0 where
  pub table : Table w t
  pub row : a < groups w
  pub group : b < groups w
