-- The boundary's own rows: where they decide nothing, and what they decide.
-- Assumes nothing.
use mathlib.Core.Path.{◌≡◌, refl, sym, ap, ◌∙◌}
use mathlib.Core.Bool.{Bool, true, false, cond, not}
use mathlib.Core.List.{List, [], ◌∷◌, ◌++◌}
use Prim.Native.Nat.{ℕ, zero, suc}
use lib.Dec.{eqb}
use lib.ListN.{length, get_or}
use Rattle.wire.specs.Groups.{is_group}
use Rattle.wire.specs.Address.{address_at}
use Rattle.permit.specs.Permission.{permissions_sized}
use Rattle.tables.specs.Refusals.{Check, refuse, below, same, differ, off, first_refusal}
use Rattle.tables.specs.Outcome.{refusal, out, outcome}
use Rattle.tables.specs.Arrival.{arrival_checks}
use Rattle.tables.proofs.RefusalLaws.{skipped}
use Rattle.tables.proofs.ArrivalLaws.{numbered}
use Rattle.links.specs.Links.{identified, identify_front}
use Rattle.requests.specs.Requests.{smp_source}
use Rattle.discover.specs.declared.Changes.{Changes}
use Rattle.rules.specs.Rules.{function_of, smp_reply, length_field}
use Rattle.smp.specs.Smp.{room_for, request_checks, smp_checks, values_of, buffers_of}
use Rattle.rules.proofs.RuleLaws.{field_most}
use Rattle.boundary.specs.C.{or_else, bytes_fit, all_fit}
use Rattle.boundary.specs.Promises.{RefusedInC, AsDocument01, OtherLength, WideDevice, NoByte}
use Rattle.boundary.proofs.Crossing.{stopped_by, stopped, as_follows, behind}

-- ---- a refused call
pub refused_in_c : RefusedInC
unfolding outcome
refused_in_c k zero values old new n fs bs e h = absurd (h (cc e))
refused_in_c k (suc m) values old new n fs bs e h = (cc e, cc e)

-- ---- IDENTIFY
-- the boundary's rows of number 5
abbrev fives : List ℕ → ℕ → ℕ → List Check
fives address device attached = refuse 5 (same (address_at address 0) 0) ∷ refuse 5 (off (bytes_fit device attached)) ∷ []

pub other_length : OtherLength
other_length phys phy address device attached l =
    stopped (identify_front phys phy) 3 (differ (length address) 8) (fives address device attached) (numbered phys phy true true false) (λ k. l) _ _ _

-- whether the address is zero decides nothing: both are 5
pub wide_device : WideDevice
unfolding first_refusal
wide_device phys phy address device attached l f =
    stopped_by (identify_front phys phy) 4 (refuse 4 (differ (length address) 8) ∷ fives address device attached) (numbered phys phy true true false)
    (λ k. either (eqb (address_at address 0) 0) (bytes_fit device attached) f ∙ sym (skipped 4 (differ (length address) 8) (fives address device attached) l)) _ _ _
  where
    either : (z b : Bool) → b ≡ false → ◌≡◌ {A = ℕ} 5 (cond z 5 (cond (not b) 5 0))
    either true b e = refl
    either false b e = rw e

-- ---- SMP
module _ (w : ℕ) (phys permissions : List ℕ) (phy : ℕ) (request response set : List ℕ) where
  abbrev shared : List Check
  shared = arrival_checks phys phy (permissions_sized w permissions) (room_for response set) true

  abbrev last8 : ℕ → Changes → List Check
  last8 carried changes = refuse 8 (below 255 (length_field w phys permissions phy carried changes request)) ∷ []

  -- document 01's rows come to the same without 8
  without_8 : (byte : ℕ) (counts : Changes)
      → first_refusal (smp_checks w phys permissions phy byte counts request (room_for response set)) ≡ first_refusal (shared ++ request_checks phys phy byte request)
  without_8 byte counts =
      behind shared (request_checks phys phy byte request ++ last8 byte counts) (request_checks phys phy byte request)
      (behind (request_checks phys phy byte request) (last8 byte counts) []
      (skipped 8 (below 255 (length_field w phys permissions phy byte counts request)) [] (field_most w phys permissions phy byte counts request)))

pub no_byte : NoByte
unfolding arrival_checks
no_byte w phys permissions phy carried byte changes counts request response set h =
    stopped (shared w phys permissions phy request response set ++ request_checks phys phy carried request) 4 (off (all_fit carried changes))
    (last8 w phys permissions phy request response set carried changes) tt (λ k. ap not h) _ _ _
    ∙ ap (λ (m : ℕ). out (refusal m) (phys ∷ permissions ∷ response ∷ set ∷ []))
    (as_follows (shared w phys permissions phy request response set ++ refuse 4 (below (length request) 4) ∷ refuse 5 (differ (get_or request 0 0) 0x40) ∷ []) 4 (off (is_group (smp_source phys phy carried))) (off (is_group (smp_source phys phy byte)))
    ∙ ap (λ (m : ℕ). or_else m 5) (sym (without_8 w phys permissions phy request response set byte counts)))

-- ---- where document 01 has the input
pub as_document_01 : AsDocument01
as_document_01 = (
  λ phys phy address device attached l f. ap (λ (m : ℕ). outcome m [] (phys ∷ []) (identified phys phy address device attached ∷ []))
      (behind (identify_front phys phy) (refuse 5 (same (address_at address 0) 0) ∷ []) (refuse 4 (differ (length address) 8) ∷ fives address device attached)
      (sym (skipped 4 (differ (length address) 8) (fives address device attached) l
      ∙ behind (refuse 5 (same (address_at address 0) 0) ∷ []) (refuse 5 (off (bytes_fit device attached)) ∷ []) [] (skipped 5 (off (bytes_fit device attached)) [] (ap not f))))),
  λ w phys permissions phy carried changes request response set h.
      ap (λ (m : ℕ). outcome m (values_of (smp_reply w phys permissions phy carried changes request)) (phys ∷ permissions ∷ response ∷ set ∷ [])
      (buffers_of (function_of request) (smp_reply w phys permissions phy carried changes request) response set))
      (behind (shared w phys permissions phy request response set) (request_checks phys phy carried request ++ last8 w phys permissions phy request response set carried changes)
      (request_checks phys phy carried request ++ refuse 5 (off (all_fit carried changes)) ∷ last8 w phys permissions phy request response set carried changes)
      (behind (request_checks phys phy carried request) (last8 w phys permissions phy request response set carried changes)
      (refuse 5 (off (all_fit carried changes)) ∷ last8 w phys permissions phy request response set carried changes)
      (sym (skipped 5 (off (all_fit carried changes)) _ (ap not h))))),
)
