-- The fixed table: one record stored, and the loop that stores all eight.
-- Assumes nothing.
use mathlib.Core.Path.{◌≡◌, refl, sym, ap, ◌∙◌}
use mathlib.Core.List.{List, [], ◌∷◌, ◌++◌, append-nil}
use Prim.Native.Nat.{ℕ, ◌+◌, ◌*◌, ◌≤◌, ◌<◌}
use native.Mathlib.Numerals.{add-one}
use native.Mathlib.Omega.{arith}
use lib.ListN.{length, drop, get_or, drop_of_length-le}
use lib.Seq.{sets-eq, drop-cons}
use Rattle.wire.proofs.BitLaws.{each8}
use Rattle.rack.specs.declared.PhyRecord.{PhyRecord}
use Rattle.rack.specs.Rack.{bytes_of, rack, flat, rack_table}
use Rattle.tables.specs.Phys.{phy_record}
use Rattle.lines.specs.Written.{written, Wrote}
use Rattle.lines.proofs.Lines.{written-append, length-written}

-- four bytes, the address behind them, and four zeros
pub store_done : (t : List ℕ) (at : ℕ) (r : PhyRecord) (a : ℕ) (t₁ : List ℕ) (b : ℕ) (t₂ : List ℕ) (c : ℕ) (t₃ : List ℕ)
    → Wrote t at (r.first ∷ r.group ∷ r.flags ∷ 0 ∷ []) a t₁ → Wrote t₁ a r.address b t₂ → Wrote t₂ b (0 ∷ 0 ∷ 0 ∷ 0 ∷ []) c t₃
    → t₃ ≡ written t at (bytes_of r)
store_done t at r a t₁ b t₂ c t₃ u v w =
    w.wrote
    ∙ rw (v.wrote, v.ends, ← written-append r.address (0 ∷ 0 ∷ 0 ∷ 0 ∷ []) t₁ a, u.wrote, u.ends)
    (sym (written-append (r.first ∷ r.group ∷ r.flags ∷ 0 ∷ []) (r.address ++ 0 ∷ 0 ∷ 0 ∷ 0 ∷ []) t at))

blank : PhyRecord
blank = record { first = 0; group = 0; flags = 0; address = [] }

eight : (i : ℕ) → i < 8 → i < length rack
unfolding rack
eight i h = h

-- every record has its bytes
whole_record : (i : ℕ) → i < 8 → length (bytes_of (get_or rack i blank)) ≡ phy_record
unfolding rack blank
whole_record = each8 (λ (i : ℕ). length (bytes_of (get_or rack i blank)) ≡ phy_record) refl refl refl refl refl refl refl refl

-- the invariant: with the records from i on stored too, the table is the rack
pub record Stored (t₀ t : List ℕ) (i : ℕ) : Type 0 where
  pub within : i ≤ 8
  pub same : length t ≡ length t₀
  pub left : written t (i * phy_record) (flat (drop i rack)) ≡ written t₀ 0 (flat rack)

pub stored_again : (t₀ t t₁ : List ℕ) (i : ℕ) → i < 8 → t₁ ≡ written t (i * phy_record) (bytes_of (get_or rack i (record { first = 0; group = 0; flags = 0; address = [] }))) → Stored t₀ t i
    → Stored t₀ t₁ (i + 1)
unfolding flat blank
stored_again t₀ t t₁ i h e r = record {
  within = omega arith;
  same = ap length e ∙ length-written t (i * phy_record) _ ∙ r.same;
  left =
      ap (λ (l : List ℕ). written l ((i + 1) * phy_record) (flat (drop (i + 1) rack))) e
      ∙ ap (λ (n : ℕ). written (written t (i * phy_record) (bytes_of (get_or rack i blank))) n (flat (drop (i + 1) rack))) (place i (length (bytes_of (get_or rack i blank))) (whole_record i h))
      ∙ sym (written-append (bytes_of (get_or rack i blank)) (flat (drop (i + 1) rack)) t (i * phy_record))
      ∙ ap (λ (n : ℕ). written t (i * phy_record) (flat (get_or rack i blank ∷ drop n rack))) (add-one i)
      ∙ ap (λ (l : List PhyRecord). written t (i * phy_record) (flat l)) (sym (drop-cons rack i blank (eight i h)))
      ∙ r.left;
}
  where
    place : (k n : ℕ) → n ≡ phy_record → (k + 1) * phy_record ≡ k * phy_record + n
    place k n p = omega arith

pub stored_end : (t₀ t : List ℕ) (i : ℕ) → length t₀ ≡ 8 * phy_record → 8 ≤ i → Stored t₀ t i → t ≡ rack_table
unfolding rack_table rack flat written
stored_end t₀ t i n h r =
    let w = r.within in
    let e : i ≡ 8 = omega arith in
    sym (ap (λ (k : ℕ). written t (k * phy_record) (flat (drop k rack))) e)
    ∙ r.left
    ∙ sets-eq (flat rack) t₀ 0 (omega arith)
    ∙ ap (λ (l : List ℕ). flat rack ++ l) (drop_of_length-le t₀ {i = 8 * phy_record} (omega arith))
    ∙ append-nil (flat rack)
