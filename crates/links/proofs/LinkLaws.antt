-- What the inner functions of the link calls come to, over plain lists and numbers.
-- Assumes nothing.
use mathlib.Core.Path.{◌≡◌, sym, ap, ◌∙◌}
use mathlib.Core.List.{List}
use Prim.Native.Nat.{ℕ, ◌+◌, ◌*◌, ◌%◌}
use borrow.Author.Tests.{not-false}
use lib.ListN.{set}
use lib.Seq.{paste}
use Rattle.permit.specs.Permission.{Width, Table}
use Rattle.permit.proofs.Laws.{table_sized}
use Rattle.tables.specs.Phys.{phy_record}
use Rattle.tables.specs.Refusals.{first_refusal}
use Rattle.tables.proofs.RefusalLaws.{clear}
use Rattle.links.specs.Links.{start_up_checks, unzoned, identified}

-- ---- `start_up`: where nothing is refused, the table has its size
pub sized : (w : ℕ) (permissions : List ℕ) (r : ℕ) → Width w → r ≡ first_refusal (start_up_checks w permissions) → r ≡ 0 → Table w permissions
sized w permissions r h e z = table_sized w permissions h (not-false _ (clear (start_up_checks w permissions) r e z tt).0)

-- ---- rows on an address: the callee's result x is v, and x was tested
pub same_as : {x v w : ℕ} → x ≡ v → x ≡ w → v ≡ w
same_as e h = sym e ∙ h

pub other_than : {x v w : ℕ} → x ≡ v → (x ≡ w → ⊥) → v ≡ w → ⊥
other_than e h q = h (e ∙ q)

-- ---- `attach`: the group is settled, then bytes 2, 12 and 13 are stored, then the address
module _ (phy d a : ℕ) where
  abbrev three : List ℕ → List ℕ
  three u = set (set (set u (phy_record * phy + 2) 3) (phy_record * phy + 12) (d % 8)) (phy_record * phy + 13) a

  pub stored_all : (phys address u t : List ℕ) → u ≡ unzoned phys phy address
      → t ≡ paste (set (set (set u (phy_record * phy + 2) 3) (phy_record * phy + 12) (d % 8)) (phy_record * phy + 13) a) (phy_record * phy + 4) address 8
      → t ≡ identified phys phy address d a
  unfolding identified
  stored_all phys address u t e q = q ∙ ap (λ (x : List ℕ). paste (three x) (phy_record * phy + 4) address 8) e
