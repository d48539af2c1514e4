-- Each call of C gives what its equation says, the numbers taken as they came: those from 255 on are refused by their own row, which hides what
-- comes after it.
-- Assumes nothing.
use mathlib.Core.Path.{◌≡◌, sym, ◌∙◌}
use mathlib.Core.Bool.{Bool}
use mathlib.Core.List.{List, [], ◌∷◌}
use Prim.Native.Nat.{ℕ, min, ◌%◌, ◌≤◌}
use native.Mathlib.Omega.{arith}
use lib.ListN.{length}
use Rattle.tables.specs.Refusals.{Check, refuse, below, differ}
use Rattle.tables.specs.Outcome.{Answer, out}
use Rattle.boundary.specs.C.{given, fields, in_c}
use Rattle.boundary.proofs.Crossing.{crosses, stopped, clamped}
use Rattle.console_orders.specs.Building.{single_out, report_out}
use Rattle.console_rows.specs.Batches.{batch_out}
use Rattle.console_zones.specs.Zones.{phy_zones_out}

module _ (room : List ℕ) where
  -- ---- the rows before a first phy or group
  abbrev listed : ℕ → ℕ → List ℕ → List Check
  listed most entry list = refuse 21 (below (length room) 1020) ∷ refuse 22 (below most (length list)) ∷ refuse 22 (differ (length list % entry) 0) ∷ []

  zones_far : (entries : List ℕ) (x y : ℕ) → 255 ≤ x → 255 ≤ y → phy_zones_out room x entries ≡ phy_zones_out room y entries
  zones_far entries x y hx hy =
      stopped (listed 384 3 entries) 22 (below 127 x) _ tt (λ c. omega arith) _ _ _
      ∙ sym (stopped (listed 384 3 entries) 22 (below 127 y) _ tt (λ c. omega arith) _ _ _)

  pub zones_c : (first p : ℕ) (entries fs : List ℕ) (a : Answer) (bs : List (List ℕ)) → p ≡ min first 255 → out a bs ≡ phy_zones_out room p entries
      → fs ≡ fields 1 a → given fs bs ≡ in_c 1 (phy_zones_out room first entries)
  zones_c first p entries fs a bs ep q e = crosses 1 fs a bs _ e (q ∙ clamped (λ (x : ℕ). phy_zones_out room x entries) (zones_far entries) p first ep)

  batch_far : (choices : List ℕ) (complete : Bool) (x y : ℕ) → 255 ≤ x → 255 ≤ y → batch_out room x choices complete ≡ batch_out room y choices complete
  batch_far choices complete x y hx hy =
      stopped (listed 8064 128 choices) 22 (below 127 x) _ tt (λ c. omega arith) _ _ _
      ∙ sym (stopped (listed 8064 128 choices) 22 (below 127 y) _ tt (λ c. omega arith) _ _ _)

  pub batch_c : (first p : ℕ) (choices fs : List ℕ) (complete : Bool) (a : Answer) (bs : List (List ℕ)) → p ≡ min first 255
      → out a bs ≡ batch_out room p choices complete → fs ≡ fields 1 a → given fs bs ≡ in_c 1 (batch_out room first choices complete)
  batch_c first p choices fs complete a bs ep q e =
      crosses 1 fs a bs _ e (q ∙ clamped (λ (x : ℕ). batch_out room x choices complete) (batch_far choices complete) p first ep)

  -- ---- the two groups of a single order
  abbrev roomy : List Check
  roomy = refuse 21 (below (length room) 1020) ∷ []

  module _ (new complete : Bool) where
    source_far : (b x y : ℕ) → 255 ≤ x → 255 ≤ y → single_out room x b new complete ≡ single_out room y b new complete
    source_far b x y hx hy =
        stopped roomy 22 (below 127 x) _ tt (λ c. omega arith) _ _ _ ∙ sym (stopped roomy 22 (below 127 y) _ tt (λ c. omega arith) _ _ _)

    target_far : (a x y : ℕ) → 255 ≤ x → 255 ≤ y → single_out room a x new complete ≡ single_out room a y new complete
    target_far a x y hx hy =
        let before : List Check = refuse 21 (below (length room) 1020) ∷ refuse 23 (below 127 a) ∷ [] in
        stopped before 22 (below 127 x) _ tt (λ c. omega arith) _ _ _ ∙ sym (stopped before 22 (below 127 y) _ tt (λ c. omega arith) _ _ _)

    pub single_c : (a b p q : ℕ) (fs : List ℕ) (r : Answer) (bs : List (List ℕ)) → p ≡ min a 255 → q ≡ min b 255
        → out r bs ≡ single_out room p q new complete → fs ≡ fields 1 r → given fs bs ≡ in_c 1 (single_out room a b new complete)
    single_c a b p q fs r bs ep eq h e =
        crosses 1 fs r bs _ e
        (h
        ∙ clamped (λ (x : ℕ). single_out room x q new complete) (source_far q) p a ep
        ∙ clamped (λ (x : ℕ). single_out room a x new complete) (target_far a) q b eq)

  -- ---- the first group of a report, and its count
  count_far : (first x y : ℕ) → 255 ≤ x → 255 ≤ y → report_out room first x ≡ report_out room first y
  count_far first x y hx hy =
      stopped roomy 21 (below 63 x) _ tt (λ c. omega arith) _ _ _ ∙ sym (stopped roomy 21 (below 63 y) _ tt (λ c. omega arith) _ _ _)

  first_far : (count x y : ℕ) → 255 ≤ x → 255 ≤ y → report_out room x count ≡ report_out room y count
  first_far count x y hx hy =
      let before : List Check = refuse 21 (below (length room) 1020) ∷ refuse 22 (below 63 count) ∷ [] in
      stopped before 22 (below 127 x) _ tt (λ c. omega arith) _ _ _ ∙ sym (stopped before 22 (below 127 y) _ tt (λ c. omega arith) _ _ _)

  pub report_c : (first count p n : ℕ) (fs : List ℕ) (r : Answer) (bs : List (List ℕ)) → p ≡ min first 255 → n ≡ min count 255
      → out r bs ≡ report_out room p n → fs ≡ fields 1 r → given fs bs ≡ in_c 1 (report_out room first count)
  report_c first count p n fs r bs ep en h e =
      crosses 1 fs r bs _ e
      (h
      ∙ clamped (λ (x : ℕ). report_out room x n) (first_far n) p first ep
      ∙ clamped (λ (x : ℕ). report_out room first x) (count_far first) n count en)
