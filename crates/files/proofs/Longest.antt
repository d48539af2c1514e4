-- How long the longest file is, of both versions and both shelves.
-- Assumes nothing.
use mathlib.Core.Path.{◌≡◌}
use mathlib.Core.Bool.{true}
use mathlib.Core.List.{List}
use Prim.Native.Nat.{ℕ, ◌+◌, ◌-◌, ◌*◌, ◌/◌, ◌≤◌}
use native.Mathlib.Omega.{arith}
use lib.ListN.{length}
use Rattle.permit.specs.Permission.{groups}
use Rattle.tables.specs.Phys.{phy_count, phys_sized}
use Rattle.tables.proofs.ArrivalLaws.{phys_records}
use Rattle.file_pairs.specs.Pairs.{pairs_of}
use Rattle.file_pairs.proofs.Writes.{pairs_length}
use Rattle.file_phys.specs.Block.{block_of}
use Rattle.file_phys.proofs.BlockLaws.{block_length}
use Rattle.version_1.specs.Version1.{file_of}
use Rattle.version_2.specs.Version2.{beside, whole_file_of}
use Rattle.files.specs.Promises.{Longest}
use Rattle.files.proofs.Ends.{length_file}
use Rattle.files.proofs.WholeFiles.{length_parts}

file_length : (w : ℕ) (t : List ℕ) → 1 ≤ w → length (file_of w t) ≤ (groups w - 2) * (groups w - 2 + 1) + 12
unfolding file_of
file_length w t h =
    let e = length_file (pairs_of w t) 1 (length (pairs_of w t) / 2) 0 (length (pairs_of w t) + 12) in
    let b = pairs_length w t h in
    omega arith

whole_length : (w : ℕ) (phys t : List ℕ) → 1 ≤ w → phys_sized phys ≡ true → length (whole_file_of w phys t) ≤ (groups w - 2) * (groups w - 2 + 1) + beside 128
unfolding whole_file_of
whole_length w phys t h s =
    let e =
    length_parts (pairs_of w t) (block_of phys) (phy_count phys) 2 (length (pairs_of w t) / 2) 0 (length (pairs_of w t) + beside (phy_count phys)) (block_length phys) in
    let b = pairs_length w t h in
    let r = (phys_records phys s).1 in
    omega arith

pub longest : Longest
longest = (
  λ t. file_length 16 t (omega arith),
  λ phys t s. whole_length 16 phys t (omega arith) s,
  λ t. file_length 1 t (omega arith),
  λ phys t s. whole_length 1 phys t (omega arith) s,
)
