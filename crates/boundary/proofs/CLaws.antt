-- Each call of C gives what its equation says, the numbers taken as they came.
-- Assumes nothing.
use mathlib.Core.Path.{◌≡◌, sym, ap, ap₂, ◌∙◌}
use mathlib.Core.Bool.{Bool, true, false, not, ◌&&◌}
use mathlib.Core.List.{List, [], ◌∷◌, ◌++◌}
use Prim.Native.Nat.{ℕ, min, ◌≤◌}
use native.Mathlib.Omega.{arith}
use mir.Syntax.{w16}
use mir.Val.{Fits}
use borrow.Author.Tests.{not-true, not-false, leb-true}
use lib.Dec.{leb}
use lib.ListN.{length}
use Rattle.std.proofs.Common.{Result, Err}
use Rattle.std.specs.Bool.{⊤}
use Rattle.std.specs.Result.{result_and}
use Rattle.permit.specs.Permission.{permissions_sized}
use Rattle.tables.specs.declared.refusal.Refusal.{Refusal}
use Rattle.tables.specs.declared.refusal.Refusal.TheVariants.{WrongField}
use Rattle.tables.specs.Numbers.{number, refused}
use Rattle.tables.specs.Refusals.{Check, refuse, below, at_most, off, first_refusal, Clear}
use Rattle.tables.specs.Outcome.{Answer, refusal, Out, out, outcome}
use Rattle.tables.specs.Phys.{phy_count, phys_sized, ready}
use Rattle.tables.specs.Routes.{routes_sized}
use Rattle.tables.specs.Arrival.{unlike, arrival_checks}
use Rattle.tables.proofs.ArrivalLaws.{both, phys_records, numbered}
use Rattle.links.specs.Links.{linked_as, leaving_out, identify_out, identify_front}
use Rattle.opens.specs.Open.{open_out}
use Rattle.broadcasts.specs.Broadcasts as broadcasts
use Rattle.broadcasts.specs.Broadcasts.{primitive_out, broadcast_out}
use Rattle.requests.specs.Results as results
use Rattle.discover.specs.declared.Changes.{Changes}
use Rattle.smp.specs.declared.Answered.{Answered}
use Rattle.smp.specs.Smp.{answered_as, room_for, smp_checks, smp_out}
use Rattle.boundary.specs.C.{given, fields, in_c, or_else, bytes_fit, identify_out_c, all_fit, counted, smp_out_c}
use Rattle.boundary.proofs.Crossing.{crosses, turned_down, stopped, clamped}
use Rattle.boundary.proofs.Boundary.{other_length, wide_device, no_byte, as_document_01}

-- ---- a phy number from 255 on is refused as every other such number: by a table's size, or else as 2
module _ (phys : List ℕ) (sizes room awaited : Bool) where
  abbrev tables : List Check
  tables = refuse 1 (off (phys_sized phys)) ∷ refuse 1 (off sizes) ∷ []

  abbrev past : ℕ → List Check
  past x = refuse 3 (off room) ∷ refuse 7 (unlike awaited (ready phys x)) ∷ []

  beyond : (x : ℕ) → 255 ≤ x → Clear tables → phy_count phys ≤ x
  beyond x h k = let p = phys_records phys (not-false (phys_sized phys) k.0) in omega arith

  pub arrival_far : (x : ℕ) → 255 ≤ x → (own : List Check) (values : List ℕ) (old new : List (List ℕ))
      → outcome (first_refusal (arrival_checks phys x sizes room awaited ++ own)) values old new ≡ out (refusal (or_else (first_refusal tables) 2)) old
  unfolding arrival_checks
  arrival_far x h own values old new = stopped tables 1 (at_most (phy_count phys) x) (past x ++ own) tt (beyond x h) values old new

-- ---- leaving
module _ (phys : List ℕ) where
  leaving_far : (x y : ℕ) → 255 ≤ x → 255 ≤ y → leaving_out phys x ≡ leaving_out phys y
  unfolding arrival_checks
  leaving_far x y hx hy = arrival_far phys true true true x hx [] _ _ _ ∙ sym (arrival_far phys true true true y hy [] _ _ _)

  pub leaving_c : (phy p : ℕ) (fs : List ℕ) (a : Answer) (bs : List (List ℕ)) → p ≡ min phy 255 → out a bs ≡ leaving_out phys p → fs ≡ fields 0 a
      → given fs bs ≡ in_c 0 (leaving_out phys phy)
  leaving_c phy p fs a bs ep q e = crosses 0 fs a bs _ e (q ∙ clamped (leaving_out phys) leaving_far p phy ep)

-- ---- OPEN
module _ (w : ℕ) (phys routes permissions frame buffer : List ℕ) where
  open_far : (x y : ℕ) → 255 ≤ x → 255 ≤ y → open_out w phys routes permissions x frame buffer ≡ open_out w phys routes permissions y frame buffer
  open_far x y hx hy =
      let far = arrival_far phys (routes_sized routes && permissions_sized w permissions) (leb 28 (length buffer)) true in
      far x hx _ _ _ _ ∙ sym (far y hy _ _ _ _)

  pub open_c : (phy p : ℕ) (fs : List ℕ) (a : Answer) (bs : List (List ℕ)) → p ≡ min phy 255
      → out a bs ≡ open_out w phys routes permissions p frame buffer → fs ≡ fields 2 a → given fs bs ≡ in_c 2 (open_out w phys routes permissions phy frame buffer)
  open_c phy p fs a bs ep q e =
      crosses 2 fs a bs _ e (q ∙ clamped (λ (x : ℕ). open_out w phys routes permissions x frame buffer) open_far p phy ep)

-- ---- broadcasts
module _ (w : ℕ) (phys permissions set frame : List ℕ) where
  broadcasts_far : (x : ℕ) → 255 ≤ x → (own : List Check) (values : List ℕ) (old new : List (List ℕ))
      → outcome (first_refusal (arrival_checks phys x (permissions_sized w permissions) (broadcasts.room_for set frame) true ++ own)) values old new
      ≡ out (refusal (or_else (first_refusal (refuse 1 (off (phys_sized phys)) ∷ refuse 1 (off (permissions_sized w permissions)) ∷ [])) 2)) old
  broadcasts_far = arrival_far phys (permissions_sized w permissions) (broadcasts.room_for set frame) true

  primitive_far : (number x y : ℕ) → 255 ≤ x → 255 ≤ y → primitive_out w phys permissions x number set frame ≡ primitive_out w phys permissions y number set frame
  primitive_far number x y hx hy = broadcasts_far x hx _ _ _ _ ∙ sym (broadcasts_far y hy _ _ _ _)

  over_far : (phy x y : ℕ) → 255 ≤ x → 255 ≤ y → primitive_out w phys permissions phy x set frame ≡ primitive_out w phys permissions phy y set frame
  over_far phy x y hx hy =
      let shared = arrival_checks phys phy (permissions_sized w permissions) (broadcasts.room_for set frame) true in
      let k = numbered phys phy (permissions_sized w permissions) (broadcasts.room_for set frame) true in
      stopped shared 4 (below 7 x) [] k (λ c. omega arith) _ _ _ ∙ sym (stopped shared 4 (below 7 y) [] k (λ c. omega arith) _ _ _)

  pub primitive_c : (phy number p n : ℕ) (fs : List ℕ) (a : Answer) (bs : List (List ℕ)) → p ≡ min phy 255 → n ≡ min number 255
      → out a bs ≡ primitive_out w phys permissions p n set frame → fs ≡ fields 1 a → given fs bs ≡ in_c 1 (primitive_out w phys permissions phy number set frame)
  primitive_c phy number p n fs a bs ep en q e =
      crosses 1 fs a bs _ e
      (q
      ∙ clamped (λ (x : ℕ). primitive_out w phys permissions x n set frame) (primitive_far n) p phy ep
      ∙ clamped (λ (x : ℕ). primitive_out w phys permissions phy x set frame) (over_far phy) n number en)

  module _ (arrived : List ℕ) where
    broadcast_far : (x y : ℕ) → 255 ≤ x → 255 ≤ y → broadcast_out w phys permissions x arrived set frame ≡ broadcast_out w phys permissions y arrived set frame
    broadcast_far x y hx hy = broadcasts_far x hx _ _ _ _ ∙ sym (broadcasts_far y hy _ _ _ _)

    pub broadcast_c : (phy p : ℕ) (fs : List ℕ) (a : Answer) (bs : List (List ℕ)) → p ≡ min phy 255
        → out a bs ≡ broadcast_out w phys permissions p arrived set frame → fs ≡ fields 1 a
        → given fs bs ≡ in_c 1 (broadcast_out w phys permissions phy arrived set frame)
    broadcast_c phy p fs a bs ep q e =
        crosses 1 fs a bs _ e (q ∙ clamped (λ (x : ℕ). broadcast_out w phys permissions x arrived set frame) broadcast_far p phy ep)

-- ---- a number that fits is itself when clamped
fits_device : (device attached : ℕ) → bytes_fit device attached ≡ true → (min device 255 ≡ device) × (min attached 255 ≡ attached)
unfolding bytes_fit
fits_device device attached f =
    let b = both (leb device 255) (leb attached 255) f in
    let d = leb-true device 255 b.0 in
    let a = leb-true attached 255 b.1 in
    (omega arith, omega arith)

fits_carried : (carried expander count : ℕ) → all_fit carried (counted expander count) ≡ true → (min carried 255 ≡ carried) × (expander ≤ 65535) × (min count 255 ≡ count)
unfolding all_fit
fits_carried carried expander count f =
    let b = both (leb carried 255) (leb expander 65535 && leb count 255) f in
    let e = both (leb expander 65535) (leb count 255) b.1 in
    let c = leb-true carried 255 b.0 in
    let x = leb-true count 255 e.1 in
    (omega arith, leb-true expander 65535 e.0, omega arith)

-- the expander's count is not clamped but cast
pub count_fits : (carried expander count : ℕ) (b : Bool) → b ≡ all_fit carried (counted expander count) → not b ≡ false → Fits w16 expander
count_fits carried expander count b eb f = let m = fits_carried carried expander count (sym eb ∙ not-false b f) in omega arith

pub refused_own : (phys : List ℕ) (p : ℕ) (own : Refusal) (r j : Result ⊤ Refusal) (fs : List ℕ) → refused r ≡ first_refusal (identify_front phys p) → j ≡ result_and r (Err own)
    → fs ≡ fields 0 (linked_as j) → fs ≡ fields 0 (refusal (or_else (first_refusal (identify_front phys p)) (number own)))
refused_own phys p own r j fs er ej e =
    e ∙ ap (fields 0) (turned_down (λ _. []) r own j ej) ∙ ap (λ (m : ℕ). fields 0 (refusal (or_else m (number own)))) er

-- ---- IDENTIFY
module _ (phys address : List ℕ) (device attached : ℕ) where
  identify_far : (x y : ℕ) → 255 ≤ x → 255 ≤ y → identify_out_c phys x address device attached ≡ identify_out_c phys y address device attached
  identify_far x y hx hy = arrival_far phys true true false x hx _ _ _ _ ∙ sym (arrival_far phys true true false y hy _ _ _ _)

  module _ (phy p : ℕ) (ep : p ≡ min phy 255) where
    -- what the boundary refuses itself
    own : (n : ℕ) (fs : List ℕ) → fs ≡ fields 0 (refusal (or_else (first_refusal (identify_front phys p)) n))
        → identify_out_c phys p address device attached ≡ out (refusal (or_else (first_refusal (identify_front phys p)) n)) (phys ∷ [])
        → given fs (phys ∷ []) ≡ in_c 0 (identify_out_c phys phy address device attached)
    own n fs e q =
        crosses 0 fs _ (phys ∷ []) _ e (sym q ∙ clamped (λ (x : ℕ). identify_out_c phys x address device attached) identify_far p phy ep)

    pub identify_short : (fs : List ℕ) → (length address ≡ 8 → ⊥) → fs ≡ fields 0 (refusal (or_else (first_refusal (identify_front phys p)) 4))
        → given fs (phys ∷ []) ≡ in_c 0 (identify_out_c phys phy address device attached)
    identify_short fs l e = own 4 fs e (other_length phys p address device attached l)

    pub identify_wide : (b : Bool) (fs : List ℕ) → length address ≡ 8 → b ≡ bytes_fit device attached → not b ≡ true
        → fs ≡ fields 0 (refusal (or_else (first_refusal (identify_front phys p)) 5)) → given fs (phys ∷ []) ≡ in_c 0 (identify_out_c phys phy address device attached)
    identify_wide b fs l eb f e = own 5 fs e (wide_device phys p address device attached l (sym eb ∙ not-true b f))

    -- eight bytes, and numbers that fit
    pub identify_whole : (b : Bool) (whole fs : List ℕ) (d a : ℕ) (ans : Answer) (bs : List (List ℕ)) → length address ≡ 8 → b ≡ bytes_fit device attached → not b ≡ false
        → whole ≡ address → d ≡ min device 255 → a ≡ min attached 255 → out ans bs ≡ identify_out phys p whole d a → fs ≡ fields 0 ans
        → given fs bs ≡ in_c 0 (identify_out_c phys phy address device attached)
    identify_whole b whole fs d a ans bs l eb f ew ed ea q e =
        let fit = sym eb ∙ not-false b f in
        let m = fits_device device attached fit in
        crosses 0 fs ans bs _ e
        (q
        ∙ ap (λ (s : List ℕ). identify_out phys p s d a) ew
        ∙ ap₂ (λ (x y : ℕ). identify_out phys p address x y) (ed ∙ m.0) (ea ∙ m.1)
        ∙ as_document_01.0 phys p address device attached l fit
        ∙ clamped (λ (x : ℕ). identify_out_c phys x address device attached) identify_far p phy ep)

-- ---- SMP
module _ (w : ℕ) (phys permissions : List ℕ) (carried expander count : ℕ) (request response set : List ℕ) where
  abbrev given_out : ℕ → Out
  given_out x = smp_out_c w phys permissions x carried (counted expander count) request response set

  smp_far : (x y : ℕ) → 255 ≤ x → 255 ≤ y
      → smp_out_c w phys permissions x carried (counted expander count) request response set ≡ smp_out_c w phys permissions y carried (counted expander count) request response set
  smp_far x y hx hy =
      let far = arrival_far phys (permissions_sized w permissions) (room_for response set) true in
      far x hx _ _ _ _ ∙ sym (far y hy _ _ _ _)

  module _ (phy p : ℕ) (ep : p ≡ min phy 255) (b : Bool) (eb : b ≡ all_fit carried (counted expander count)) where
    -- a number does not fit
    pub smp_wide : (r : Result ⊤ Refusal) (j : Result Answered Refusal) (fs : List ℕ) → not b ≡ true
        → ((k : Changes) → refused r ≡ first_refusal (smp_checks w phys permissions p 255 k request (room_for response set)))
        → j ≡ result_and r (Err WrongField) → fs ≡ fields 3 (answered_as j)
        → given fs (phys ∷ permissions ∷ response ∷ set ∷ []) ≡ in_c 3 (smp_out_c w phys permissions phy carried (counted expander count) request response set)
    smp_wide r j fs f er ej e =
        let none : Changes = counted 0 0 in
        crosses 3 fs (answered_as j) (phys ∷ permissions ∷ response ∷ set ∷ []) _ e
        (ap (λ (x : Answer). out x (phys ∷ permissions ∷ response ∷ set ∷ []))
        (turned_down (λ a. results.number a.result ∷ a.length ∷ a.told ∷ []) r WrongField j ej ∙ ap (λ (m : ℕ). refusal (or_else m 5)) (er none))
        ∙ sym (no_byte w phys permissions p carried 255 (counted expander count) none request response set (sym eb ∙ not-true b f))
        ∙ clamped given_out smp_far p phy ep)

    -- all fit
    pub smp_fits : (x y : ℕ) (fs : List ℕ) (a : Answer) (bs : List (List ℕ)) → not b ≡ false → x ≡ min carried 255 → y ≡ min count 255
        → out a bs ≡ smp_out w phys permissions p x (counted expander y) request response set → fs ≡ fields 3 a
        → given fs bs ≡ in_c 3 (smp_out_c w phys permissions phy carried (counted expander count) request response set)
    smp_fits x y fs a bs f ex ey q e =
        let fit = sym eb ∙ not-false b f in
        let m = fits_carried carried expander count fit in
        crosses 3 fs a bs _ e
        (q
        ∙ ap₂ (λ (c k : ℕ). smp_out w phys permissions p c (counted expander k) request response set) (ex ∙ m.0) (ey ∙ m.2)
        ∙ as_document_01.1 w phys permissions p carried (counted expander count) request response set fit
        ∙ clamped given_out smp_far p phy ep)
