-- 10h on two shelves that are alike to their callers: where the same phys are permitted to the source groups, and those phys' records are the same, the
-- answers are too. Who is permitted is said here by P alone, not in 10h's own words: a rule that asked anything else would not be proved.
-- Assumes nothing.
use mathlib.Core.Path.{◌≡◌, refl, sym, ap, ap₂, ◌∙◌}
use mathlib.Core.Bool.{true, false, not}
use mathlib.Core.List.{List, ◌∷◌}
use Prim.Native.Nat.{ℕ, zero, suc, ◌+◌, ◌/◌, ◌<◌}
use native.Mathlib.Omega.{arith}
use borrow.Author.Tests.{eqb-false, not-false}
use lib.Dec.{leb}
use lib.ListN.{length}
use Rattle.wire.specs.Bits.{tab}
use Rattle.tables.specs.Refusals.{first_refusal}
use Rattle.tables.specs.Phys.{phy_record, phy_count, phy_byte, phy_group}
use Rattle.tables.proofs.RefusalLaws.{clear, row_same}
use Rattle.requests.specs.Requests.{smp_source, source_reaches, Reply, replied}
use Rattle.discover.specs.declared.Changes.{Changes}
use Rattle.discover.specs.Discover.{asked_phy, ignores_groups, reaches_phy, shown, discover_checks, description, discover_reply}
use Rattle.discover.proofs.DiscoverLaws.{shown_heeding}

-- ---- one record, one description
tab-same : (f g : ℕ → ℕ) (i n : ℕ) → ((k : ℕ) → k < i + n → f k ≡ g k) → tab f i n ≡ tab g i n
unfolding tab
tab-same f g i zero h = refl
tab-same f g i (suc n) h = ap₂ (λ (x : ℕ) (l : List ℕ). x ∷ l) (h i (omega arith)) (tab-same f g (suc i) n (λ k q. h k (omega arith)))

pub description-same : (phys₁ phys₂ : List ℕ) (i : ℕ) → ((k : ℕ) → k < phy_record → phy_byte phys₁ i k ≡ phy_byte phys₂ i k)
    → (changes : Changes) → description phys₁ i changes ≡ description phys₂ i changes
unfolding description
description-same phys₁ phys₂ i e changes =
    rw (
      e 0 (omega arith),
      e 1 (omega arith),
      e 2 (omega arith),
      e 12 (omega arith),
      e 13 (omega arith),
      tab-same (phy_byte phys₁ i) (phy_byte phys₂ i) 4 8 (λ k q. e k (omega arith)),
    )

-- ---- what a caller is told: a reply without its tables
pub record Same (p q : Reply) : Type 0 where
  pub result : p.result ≡ q.result
  pub rest : p.rest ≡ q.rest
  pub set : p.set ≡ q.set

replied-same : (n : ℕ) (p q : Reply) (phys₁ t₁ phys₂ t₂ : List ℕ) → (n ≡ 0 → Same p q) → Same (replied n p phys₁ t₁) (replied n q phys₂ t₂)
unfolding replied
replied-same zero p q phys₁ t₁ phys₂ t₂ h = h refl
replied-same (suc n) p q phys₁ t₁ phys₂ t₂ h = record { result = refl; rest = refl; set = refl }

module _ (w : ℕ) (phys₁ t₁ : List ℕ) (phy₁ carried₁ : ℕ) (phys₂ t₂ : List ℕ) (phy₂ carried₂ : ℕ) (request : List ℕ)
    (z : ignores_groups request ≡ false) (el : length phys₁ ≡ length phys₂)
    (ep : (i : ℕ) → i < phy_count phys₁
    → source_reaches w t₁ (smp_source phys₁ phy₁ carried₁) (phy_group phys₁ i) ≡ source_reaches w t₂ (smp_source phys₂ phy₂ carried₂) (phy_group phys₂ i)) where
  -- with the ignore bit zero, who is shown a phy is a matter of P
  heeding : (phys t : List ℕ) (phy carried : ℕ)
      → shown w phys t phy carried request ≡ source_reaches w t (smp_source phys phy carried) (phy_group phys (asked_phy request))
  unfolding reaches_phy
  heeding phys t phy carried = shown_heeding w phys t phy carried request (eqb-false _ 1 z)

  checks_same : first_refusal (discover_checks w phys₁ t₁ phy₁ carried₁ request) ≡ first_refusal (discover_checks w phys₂ t₂ phy₂ carried₂ request)
  checks_same =
      row_same _ _ _ _ _ refl (λ long. row_same _ _ _ _ _ refl (λ said. row_same _ _ _ _ _ (ap (λ (n : ℕ). leb (n / phy_record) (asked_phy request)) el) (λ there.
      row_same _ _ _ _ _ (ap not (heeding phys₁ t₁ phy₁ carried₁ ∙ ep (asked_phy request) there ∙ sym (heeding phys₂ t₂ phy₂ carried₂))) (λ on. refl))))

  module _ (changes : Changes)
      (er : (i : ℕ) → i < phy_count phys₁ → source_reaches w t₁ (smp_source phys₁ phy₁ carried₁) (phy_group phys₁ i) ≡ true
      → (k : ℕ) → k < phy_record → phy_byte phys₁ i k ≡ phy_byte phys₂ i k) where
    shown-same : first_refusal (discover_checks w phys₁ t₁ phy₁ carried₁ request) ≡ 0
        → description phys₁ (asked_phy request) changes ≡ description phys₂ (asked_phy request) changes
    shown-same n =
        let k = clear (discover_checks w phys₁ t₁ phy₁ carried₁ request) _ refl n tt in
        let s : shown w phys₁ t₁ phy₁ carried₁ request ≡ true = not-false _ k.1.1.1.0 in
        description-same phys₁ phys₂ (asked_phy request) (er (asked_phy request) k.1.1.0 (sym (heeding phys₁ t₁ phy₁ carried₁) ∙ s)) changes

    pub reply_same : Same (discover_reply w phys₁ t₁ phy₁ carried₁ changes request) (discover_reply w phys₂ t₂ phy₂ carried₂ changes request)
    unfolding discover_reply
    reply_same = rw (← checks_same) (replied-same _ _ _ phys₁ t₁ phys₂ t₂ (λ n. record { result = refl; rest = shown-same n; set = refl }))
