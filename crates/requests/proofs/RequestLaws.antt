-- Requests: who is speaking, the head of a response, and the two ends of a rule.
-- Assumes nothing.
use mathlib.Core.Path.{◌≡◌, sym, ap, ◌∙◌}
use mathlib.Core.Bool.{Bool, true, false}
use mathlib.Core.List.{List}
use Prim.Native.Nat.{ℕ, zero, suc}
use Rattle.std.proofs.Common.{Option, Some, Result, Err}
use Rattle.std.specs.Prelude.{⊤}
use Rattle.wire.specs.declared.ZoneGroup.{ZoneGroup}
use Rattle.wire.specs.Groups.{outside_group}
use Rattle.tables.specs.Phys.{phy_group, participating}
use Rattle.requests.specs.declared.FunctionResult.{FunctionResult}
use Rattle.requests.specs.declared.FunctionResult.TheVariants.{Accepted}
use Rattle.requests.specs.Results.{number}
use Rattle.requests.proofs.ResultLaws.{number_down}
use Rattle.requests.specs.Requests.{smp_source, Reply, turned_down, replied, Leaves}

-- who is speaking, by each way out of the function that answers it
module _ (phys : List ℕ) (phy carried : ℕ) (p : Bool) (e : p ≡ participating phys phy) where
  pub source_carried : (o : Option ZoneGroup) → p ≡ true → o ≡ outside_group carried → o ≡ smp_source phys phy carried
  unfolding smp_source
  source_carried o t eo = rw (sym e ∙ t) eo

  pub source_own : (g : ZoneGroup) → p ≡ false → g.0 ≡ phy_group phys phy → Some g ≡ smp_source phys phy carried
  unfolding smp_source
  source_own g t eg = rw (sym e ∙ t) (ap (λ (x : ℕ). Some (record { 0 = x })) eg)

-- ---- the two ends of a rule, with n the first result of its checks
module _ (n : ℕ) (accepted : Reply) (phys permissions : List ℕ) where
  pub turns_down : (r : ℕ) → r ≡ n → (r ≡ 0 → ⊥) → turned_down r phys permissions ≡ replied n accepted phys permissions
  unfolding replied
  turns_down r e h = go n e
    where
      go : (m : ℕ) → r ≡ m → turned_down r phys permissions ≡ replied m accepted phys permissions
      go zero q = absurd (h q)
      go (suc m) q = ap (λ (k : ℕ). turned_down k phys permissions) q

  pub accepts : 0 ≡ n → accepted ≡ replied n accepted phys permissions
  unfolding replied
  accepts z = rw (← z)

-- so what a rule's function leaves where its checks answer e, and where they answer nothing
module _ (function n : ℕ) (accepted : Reply) (phys permissions response set : List ℕ) (result written : ℕ) (phys₁ permissions₁ response₁ set₁ : List ℕ) where
  pub leaves_down : (e : FunctionResult) → number e ≡ n → (◌≡◌ {A = Result ⊤ FunctionResult} (Err e) (Err Accepted) → ⊥)
      → Leaves function (turned_down (number e) phys permissions) response set result written phys₁ permissions₁ response₁ set₁
      → Leaves function (replied n accepted phys permissions) response set result written phys₁ permissions₁ response₁ set₁
  leaves_down e en h l = rw (turns_down n accepted phys permissions (number e) en (number_down e h)) at l

  pub leaves_done : 0 ≡ n → Leaves function accepted response set result written phys₁ permissions₁ response₁ set₁
      → Leaves function (replied n accepted phys permissions) response set result written phys₁ permissions₁ response₁ set₁
  leaves_done z l = rw (← accepts n accepted phys permissions z) l
