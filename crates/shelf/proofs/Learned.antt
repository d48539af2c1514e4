-- What a member can learn: on two shelves that are alike to their caller every DISCOVER with the ignore bit zero gets the same answer and bytes.
-- Assumes nothing.
use mathlib.Core.Path.{◌≡◌, refl, ap, ◌∙◌}
use mathlib.Core.Bool.{true, false}
use mathlib.Core.List.{List, [], ◌∷◌}
use Prim.Native.Nat.{ℕ, zero, suc, ◌<◌}
use lib.ListN.{length, get_or}
use Rattle.tables.specs.Arrival.{arrival_checks}
use Rattle.tables.specs.Outcome.{Answer, out, outcome}
use Rattle.tables.specs.Phys.{phy_count, phys_sized, ready}
use Rattle.tables.specs.Refusals.{first_refusal}
use Rattle.tables.proofs.PhyLaws.{record_bytes}
use Rattle.requests.specs.Requests.{Reply, replied}
use Rattle.discover.specs.Discover.{ignores_groups, discover_checks, discover_reply}
use Rattle.discover.proofs.AlikeLaws.{Same, reply_same}
use Rattle.rules.specs.Rules.{function_of, smp_reply, length_field}
use Rattle.rules.proofs.RuleLaws.{is_10}
use Rattle.smp.specs.Smp.{room_for, smp_checks, values_of, buffers_of}
use Rattle.shelf.specs.Calls.{outcome_of}
use Rattle.shelf.specs.Promises.{Shelf, source_of, permitted_to, record_of, seen_of, gets, LearnsNothingElse, DiscoverKeeps}

-- what the rule that the function byte picks replies, of a shelf
abbrev pub reply_of : ℕ → List ℕ → Shelf → Reply
reply_of w request s = smp_reply w s.phys s.permissions s.phy s.carried s.changes request

-- ---- what the caller sees of two outcomes with one number
outcomes_same : (n : ℕ) (v₁ v₂ a₁ b₁ a₂ b₂ c₁ d₁ c₂ d₂ x₁ y₁ x₂ y₂ r₁ s₁ r₂ s₂ : List ℕ) → v₁ ≡ v₂ → r₁ ≡ r₂ → s₁ ≡ s₂ → x₁ ≡ x₂ → y₁ ≡ y₂
    → seen_of (outcome n v₁ (a₁ ∷ b₁ ∷ r₁ ∷ s₁ ∷ []) (c₁ ∷ d₁ ∷ x₁ ∷ y₁ ∷ [])) ≡ seen_of (outcome n v₂ (a₂ ∷ b₂ ∷ r₂ ∷ s₂ ∷ []) (c₂ ∷ d₂ ∷ x₂ ∷ y₂ ∷ []))
unfolding outcome
outcomes_same zero v₁ v₂ a₁ b₁ a₂ b₂ c₁ d₁ c₂ d₂ x₁ y₁ x₂ y₂ r₁ s₁ r₂ s₂ ev er es ex ey = cc
outcomes_same (suc n) v₁ v₂ a₁ b₁ a₂ b₂ c₁ d₁ c₂ d₂ x₁ y₁ x₂ y₂ r₁ s₁ r₂ s₂ ev er es ex ey = cc

pub seen_same : (w : ℕ) (a b : Shelf) (request : List ℕ) → (a.response ≡ b.response) × (a.set ≡ b.set) → Same (reply_of w request a) (reply_of w request b)
    → (n m : ℕ) → n ≡ m
    → seen_of (outcome n (values_of (reply_of w request a)) (a.phys ∷ a.permissions ∷ a.response ∷ a.set ∷ [])
    (buffers_of (function_of request) (reply_of w request a) a.response a.set))
    ≡ seen_of (outcome m (values_of (reply_of w request b)) (b.phys ∷ b.permissions ∷ b.response ∷ b.set ∷ [])
    (buffers_of (function_of request) (reply_of w request b) b.response b.set))
seen_same w a b request buffers replies n m e =
    rw e
    (outcomes_same m _ _ _ _ _ _ _ _ _ _ _ _ _ _ _ _ _ _ (rw (replies.result, replies.rest, replies.set)) buffers.0 buffers.1
    (rw (replies.result, replies.rest, buffers.0)) (rw (replies.set, buffers.1)))

-- ---- the premises that count, and no others
module _ (w : ℕ) (a b : Shelf) (request : List ℕ) (f : function_of request ≡ 0x10) (z : ignores_groups request ≡ false)
    (sizes : (length a.phys ≡ length b.phys) × (length a.permissions ≡ length b.permissions)) (counts : a.changes ≡ b.changes)
    (permitted : (i : ℕ) → i < phy_count a.phys → permitted_to w a i ≡ permitted_to w b i)
    (records : (i : ℕ) → i < phy_count a.phys → permitted_to w a i ≡ true → record_of a i ≡ record_of b i) where
  pub replies_same : Same (reply_of w request a) (reply_of w request b)
  replies_same =
      rw (
        is_10 w a.phys a.permissions a.phy a.carried a.changes request f,
        is_10 w b.phys b.permissions b.phy b.carried b.changes request f,
        ← counts,
      )
      (reply_same w a.phys a.permissions a.phy a.carried b.phys b.permissions b.phy b.carried request z sizes.0 permitted a.changes
      (λ i h p. record_bytes a.phys b.phys i (records i h p)))

  module _ (buffers : (a.response ≡ b.response) × (a.set ≡ b.set)) (phy : a.phy ≡ b.phy)
      (in_both : (ready a.phys a.phy ≡ true) × (ready b.phys b.phy ≡ true)) (source : source_of a ≡ source_of b) where
    refusals_same : first_refusal (smp_checks w a.phys a.permissions a.phy a.carried a.changes request (room_for a.response a.set))
        ≡ first_refusal (smp_checks w b.phys b.permissions b.phy b.carried b.changes request (room_for b.response b.set))
    unfolding first_refusal arrival_checks phys_sized length_field
    refusals_same = rw (replies_same.rest, in_both.0, in_both.1, source, sizes.0, sizes.1, phy, buffers.0, buffers.1)

    pub learned : gets w a request ≡ gets w b request
    unfolding outcome_of
    learned = seen_same w a b request buffers replies_same _ _ refusals_same

pub learns_nothing_else : LearnsNothingElse
learns_nothing_else w a b k request f z =
    learned w a b request f z k.equal_sizes k.same_counts k.same_permitted k.equal_records k.equal_buffers k.same_phy k.ready_in_both k.same_source

-- ---- both tables after a DISCOVER
tables-kept : (n : ℕ) (values a b c d : List ℕ) (os ns : List (List ℕ)) (r : Answer) (bs : List (List ℕ)) → c ≡ a → d ≡ b
    → outcome n values (a ∷ b ∷ os) (c ∷ d ∷ ns) ≡ out r bs → (get_or bs 0 [] ≡ a) × (get_or bs 1 [] ≡ b)
unfolding outcome
tables-kept zero values a b c d os ns r bs ec ed e = (cc, cc)
tables-kept (suc n) values a b c d os ns r bs ec ed e = (cc, cc)

-- a reply that keeps both tables where it is accepted keeps them in any case
keeping : (n : ℕ) (p : Reply) (phys t : List ℕ) → p.phys ≡ phys → p.permissions ≡ t → ((replied n p phys t).phys ≡ phys) × ((replied n p phys t).permissions ≡ t)
unfolding replied
keeping zero p phys t ep et = (ep, et)
keeping (suc n) p phys t ep et = (refl, refl)

pub discover_keeps : DiscoverKeeps
unfolding outcome_of discover_reply
discover_keeps w phys t phy carried changes request response set f a bs e =
    let q = is_10 w phys t phy carried changes request f in
    let k = keeping (first_refusal (discover_checks w phys t phy carried request)) _ phys t refl refl in
    tables-kept _ _ phys t _ _ _ _ a bs (ap (λ (p : Reply). p.phys) q ∙ k.0) (ap (λ (p : Reply). p.permissions) q ∙ k.1) e
