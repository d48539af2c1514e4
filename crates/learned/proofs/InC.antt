-- What a member can learn at the C boundaries: the theorem of the call, with the boundary's row.
-- Assumes nothing.
use mathlib.Core.Path.{◌≡◌, ap}
use mathlib.Core.Bool.{false}
use mathlib.Core.List.{List}
use Prim.Native.Nat.{ℕ}
use Rattle.tables.specs.Arrival.{arrival_checks}
use Rattle.tables.specs.Phys.{phys_sized}
use Rattle.tables.specs.Refusals.{first_refusal}
use Rattle.discover.specs.Discover.{ignores_groups}
use Rattle.rules.specs.Rules.{function_of, length_field}
use Rattle.smp.specs.Smp.{room_for}
use Rattle.boundary.specs.C.{in_c, smp_checks_c}
use Rattle.shelf.specs.Promises.{Shelf, none, Alike}
use Rattle.shelf.proofs.Learned.{replies_same, seen_same}
use Rattle.learned.specs.InC.{LearnsNothingElseInC}

refusals_same : (w : ℕ) (a b : Shelf) → Alike none w a b → (request : List ℕ) → function_of request ≡ 0x10 → ignores_groups request ≡ false
    → first_refusal (smp_checks_c w a.phys a.permissions a.phy a.carried a.changes request (room_for a.response a.set))
    ≡ first_refusal (smp_checks_c w b.phys b.permissions b.phy b.carried b.changes request (room_for b.response b.set))
unfolding first_refusal arrival_checks phys_sized length_field
refusals_same w a b k request f z =
    rw (
      (replies_same w a b request f z k.equal_sizes k.same_counts k.same_permitted k.equal_records).rest,
      k.ready_in_both.0,
      k.ready_in_both.1,
      k.same_source,
      k.equal_sizes.0,
      k.equal_sizes.1,
      k.same_phy,
      k.equal_buffers.0,
      k.equal_buffers.1,
      k.same_carried,
      k.same_counts,
    )

pub learns_nothing_else_in_c : LearnsNothingElseInC
learns_nothing_else_in_c w a b k request f z =
    ap (in_c 3)
    (seen_same w a b request k.equal_buffers (replies_same w a b request f z k.equal_sizes k.same_counts k.same_permitted k.equal_records) _ _
    (refusals_same w a b k request f z))
