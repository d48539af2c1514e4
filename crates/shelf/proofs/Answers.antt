-- Answers: a refused call leaves every lent buffer as it was; an SMP request turned down writes four response bytes and a zero set; what an
-- answer tells of the judgement.
-- Assumes nothing.
use mathlib.Core.Path.{◌≡◌, refl, sym, ap, ap₂, ◌∙◌}
use mathlib.Core.Bool.{false}
use mathlib.Core.List.{List, [], ◌∷◌}
use Prim.Native.Nat.{ℕ, zero, suc, ◌%◌}
use native.Mathlib.Omega.{arith}
use borrow.Author.Tests.{eqb-false}
use lib.ListN.{get_or}
use Rattle.std.proofs.Common.{Result, Ok}
use Rattle.tables.specs.declared.refusal.Refusal.{Refusal}
use Rattle.wire.specs.declared.PhyNumber.{PhyNumber}
use Rattle.wire.specs.Bits.{bit}
use Rattle.wire.specs.PhySet.{member, tally, phys_in}
use Rattle.tables.specs.Outcome.{refusal, answer, out, outcome}
use Rattle.tables.specs.Phys.{empty_set}
use Rattle.opens.specs.declared.Opened.{Opened}
use Rattle.opens.specs.declared.Opened.TheVariants.{Forward}
use Rattle.opens.specs.Open.{opened_as, opened, open_out}
use Rattle.opens.proofs.Unique.{one_answer}
use Rattle.permit.specs.Permission.{reaches}
use Rattle.requests.specs.Requests.{source_reaches, Reply, turned_down}
use Rattle.discover.specs.declared.Changes.{Changes}
use Rattle.discover.specs.Discover.{asked_phy, reaches_phy}
use Rattle.discover.proofs.DiscoverLaws.{hidden}
use Rattle.rules.specs.Rules.{function_of, smp_reply}
use Rattle.smp.specs.Smp.{values_of, buffers_of}
use Rattle.rules.proofs.RuleLaws.{is_10, down}
use Rattle.shelf.specs.Calls.{start_up, leaving, identify, elect, opening, primitive, broadcast_frame, smp, import_sheet, export_sheet, save_version1, save_version2, load_version1, load_version2, outcome_of, handed_in, answer_of}
use Rattle.shelf.specs.Promises.{Refusals, TurnedDown, Discovers, Vacant}

-- an outcome that is a refusal has the buffers that were handed in
keeps : (m : ℕ) (values : List ℕ) (old new : List (List ℕ)) (n : ℕ) (bs : List (List ℕ)) → outcome m values old new ≡ out (refusal n) bs → bs ≡ old
unfolding outcome
keeps zero values old new n bs e = let z : ◌≡◌ {A = ℕ} 0 1 = cc in absurd (omega arith)
keeps (suc m) values old new n bs e = cc

pub refusals : Refusals
unfolding outcome_of handed_in
refusals w start_up t n bs e = keeps _ _ _ _ n bs e
refusals w (leaving phys phy) t n bs e = keeps _ _ _ _ n bs e
refusals w (identify phys phy address device attached) t n bs e = keeps _ _ _ _ n bs e
refusals w (elect phys routes) t n bs e = keeps _ _ _ _ n bs e
refusals w (opening phys routes phy frame buffer) t n bs e = keeps _ _ _ _ n bs e
refusals w (primitive phys phy number set frame) t n bs e = keeps _ _ _ _ n bs e
refusals w (broadcast_frame phys phy arrived set frame) t n bs e = keeps _ _ _ _ n bs e
refusals w (smp phys phy carried changes request response set) t n bs e = keeps _ _ _ _ n bs e
refusals w (import_sheet phys phy carried sheet) t n bs e = keeps _ _ _ _ n bs e
refusals w (export_sheet sheet) t n bs e = keeps _ _ _ _ n bs e
refusals w (save_version1 file) t n bs e = keeps _ _ _ _ n bs e
refusals w (save_version2 phys file) t n bs e = keeps _ _ _ _ n bs e
refusals w (load_version1 file) t n bs e = keeps _ _ _ _ n bs e
refusals w (load_version2 phys file) t n bs e = keeps _ _ _ _ n bs e

-- an outcome that is no refusal has the values and buffers that the call gives
pub gave : (m : ℕ) (values : List ℕ) (old new : List (List ℕ)) (vs : List ℕ) (bs : List (List ℕ)) → outcome m values old new ≡ out (answer vs) bs
    → (values ≡ vs) × (bs ≡ new)
unfolding outcome
gave zero values old new vs bs e = (cc, cc)
gave (suc m) values old new vs bs e = let z : ◌≡◌ {A = ℕ} 0 1 = cc in absurd (omega arith)

answered : (m : ℕ) (vs ws : List ℕ) (old new : List (List ℕ)) → answer_of (outcome m vs old new) ≡ answer ws → vs ≡ ws
unfolding outcome
answered zero vs ws old new e = cc
answered (suc m) vs ws old new e = let z : ◌≡◌ {A = ℕ} 0 1 = cc in absurd (omega arith)

-- an OPEN that was answered with a phy was judged so
pub forwarded : (w : ℕ) (phys routes t : List ℕ) (phy : ℕ) (frame buffer : List ℕ) (q : PhyNumber) → answer_of (open_out w phys routes t phy frame buffer) ≡ opened_as (Ok (Forward q))
    → opened w phys routes t phy frame ≡ Forward q
forwarded w phys routes t phy frame buffer q e =
    let r : ◌≡◌ {A = Result Opened Refusal} (Ok (opened w phys routes t phy frame)) (Ok (Forward q)) = one_answer _ _ (ap answer (answered _ _ _ _ _ e)) in cc

none_told : phys_in empty_set ≡ 0
unfolding phys_in tally member bit empty_set
none_told = refl

pub turned_down_lem : TurnedDown
unfolding outcome_of
turned_down_lem w phys t phy carried changes request response set result written told bs e h =
    let p = smp_reply w phys t phy carried changes request in
    let g = gave _ (values_of p) _ _ _ bs e in
    let r : p.result ≡ result = cc g.0 in
    let d : p ≡ turned_down result phys t = down w phys t phy carried changes request (λ z. h (sym r ∙ z)) ∙ ap (λ (k : ℕ). turned_down k phys t) r in
    let v : result ∷ 4 ∷ phys_in empty_set ∷ [] ≡ result ∷ written ∷ told ∷ [] = sym (ap values_of d) ∙ g.0 in
    let m : written ≡ 4 = cc v in
    let n : told ≡ phys_in empty_set = cc v in
    (m, n ∙ none_told, g.1 ∙ ap (λ (q : Reply). buffers_of (function_of request) q response set) d)

-- ---- a DISCOVER that the ignore bit does not help, from a group that does not reach the phy's
pub vacant : (w : ℕ) (phys t : List ℕ) (phy carried : ℕ) (changes : Changes) (request response set : List ℕ) (a b : ℕ) → Discovers phys phy carried request a b
    → reaches w t a b ≡ false → (v : List ℕ) (bs : List (List ℕ)) → outcome_of w (smp phys phy carried changes request response set) t ≡ out (answer v) bs
    → Vacant phys t response set v bs
unfolding outcome_of reaches_phy
vacant w phys t phy carried changes request response set a b d r v bs e =
    let heeds : get_or request 8 0 % 2 ≡ 1 → ⊥ = eqb-false _ 1 d.heeds in
    let out : reaches_phy w phys t phy carried (asked_phy request) ≡ false =
    ap₂ (source_reaches w t) d.from d.for ∙ r in
    let p : smp_reply w phys t phy carried changes request ≡ turned_down 0x16 phys t =
    is_10 w phys t phy carried changes request d.function ∙ hidden w phys t phy carried changes request d.whole d.said heeds d.there out in
    let g = gave _ (values_of (smp_reply w phys t phy carried changes request)) _ _ v bs e in
    let n : values_of (turned_down 0x16 phys t) ≡ 0x16 ∷ 4 ∷ 0 ∷ [] = ap (λ (k : ℕ). 0x16 ∷ 4 ∷ k ∷ []) none_told in (
      sym g.0 ∙ ap values_of p ∙ n,
      g.1 ∙ ap₂ (λ (f : ℕ) (q : Reply). buffers_of f q response set) d.function p,
    )
