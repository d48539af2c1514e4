-- What is promised of the console holds.
-- Assumes nothing.
use mathlib.Core.Path.{◌≡◌, refl, ap, ◌∙◌}
use mathlib.Core.Bool.{Bool, true, false, not}
use Prim.Native.Nat.{ℕ, ◌+◌, ◌*◌, ◌/◌, ◌%◌, ◌<◌}
use native.Mathlib.Omega.{arith}
use lib.Dec.{eqb}
use lib.ListN.{length, get_or, drop}
use Rattle.wire.specs.Bits.{num, tab}
use Rattle.wire.specs.PhySet.{bits_of, set_byte}
use Rattle.wire.proofs.Loops.{length-tab, get_or-tab}
use Rattle.permit.specs.Permission.{P}
use Rattle.console_rows.specs.Batches.{choice_rows, chosen, packed, batch_request}
use Rattle.console_zones.specs.Zones.{entry_byte, phy_zones_request}
use Rattle.console_reading.specs.Reading.{unpacked}
use Rattle.console_orders.proofs.Unique.{built_once}
use Rattle.console_reading.proofs.Unique.{heard_once}
use Rattle.console.specs.Promises.{SameOrder, SameZones, Never, Exact24, AllRead, OnlyHeads, SameRows, SentBack, ExactlyOne, Worked}
use Rattle.console.proofs.Rows.{packed_read}
use Rattle.console.proofs.Zones.{same_zones_lem}
use Rattle.console.proofs.Reports.{all_read_lem, same-rows}
use Rattle.console.proofs.Asked.{same-order, never, exact_24}
use Rattle.console.proofs.Heads.{only_heads_lem}

on_num : (v : Bool) → not (eqb (num v) 0) ≡ v
on_num true = refl
on_num false = refl

pub sent_back_lem : SentBack
unfolding chosen unpacked
sent_back_lem response start k i j complete hi hj =
    let l : length (tab (unpacked response) 0 (128 * k)) ≡ 128 * k = length-tab (unpacked response) 0 (128 * k) in
    let n : i < choice_rows (tab (unpacked response) 0 (128 * k)) = omega arith in
    let q : (0 + (128 * i + j)) / 128 ≡ i = omega arith in
    let m : (0 + (128 * i + j)) % 128 ≡ j = omega arith in
    let v : get_or (tab (unpacked response) 0 (128 * k)) (128 * i + j) 0 ≡ num (P 16 (drop 12 response) i j) =
    get_or-tab (unpacked response) 0 (128 * k) (128 * i + j) (omega arith) ∙ rw (q, m) in
    packed_read start i j (tab (unpacked response) 0 (128 * k)) complete n hj
    ∙ ap (λ (x : ℕ). not (eqb x 0)) v
    ∙ on_num (P 16 (drop 12 response) i j)

pub exactly_one_lem : ExactlyOne
exactly_one_lem = (built_once, heard_once)

pub worked : Worked
unfolding batch_request packed chosen set_byte bits_of tab phy_zones_request entry_byte
worked = record { case1 = refl; group5 = refl; odd = refl; part = refl; asks = refl }

pub record Promised : Type 0 where
  pub same_order : SameOrder
  pub same_zones : SameZones
  pub never_fails : Never
  pub exact24 : Exact24
  pub all_read : AllRead
  pub only_heads : OnlyHeads
  pub same_rows : SameRows
  pub sent_back : SentBack
  pub exactly_one : ExactlyOne
  pub works : Worked

pub promised : Promised
promised = record {
  same_order = same-order;
  same_zones = same_zones_lem;
  never_fails = never;
  exact24 = exact_24;
  all_read = all_read_lem;
  only_heads = only_heads_lem;
  same_rows = same-rows;
  sent_back = sent_back_lem;
  exactly_one = exactly_one_lem;
  works = worked;
}
