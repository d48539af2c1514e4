-- A batch: whether it starts below 2, how long it is, and what was written.
-- Assumes nothing.
use mathlib.Core.Path.{◌≡◌, refl, sym, ◌∙◌}
use mathlib.Core.Bool.{Bool}
use mathlib.Core.List.{List, ◌++◌}
use Prim.Native.Nat.{ℕ, ◌+◌, ◌*◌}
use lib.ListN.{length, drop, length-append}
use lib.Seq.{paste}
use Rattle.wire.specs.Bits.{num, tab}
use Rattle.wire.proofs.Loops.{length-tab}
use Rattle.console_orders.specs.Building.{twelve}
use Rattle.console_orders.proofs.BuildLaws.{behind}
use Rattle.console_rows.specs.Batches.{choice_rows, packed, batch_request}

-- ---- whether a batch names group 0 or 1
-- ---- its bytes
module _ (start : ℕ) (choices room : List ℕ) (complete : Bool) where
  pub batch-length : 12 + 16 * choice_rows choices ≡ length (batch_request start choices complete)
  unfolding batch_request
  batch-length = sym (length-append (twelve (2 + 4 * choice_rows choices) 0 0 (0x90 + num complete) start (choice_rows choices)) (tab (packed choices) 0 (16 * choice_rows choices)) ∙ rw (length-tab (packed choices) 0 (16 * choice_rows choices)))

  pub batch-written : (y : ℕ) (room₀ room₁ : List ℕ) → y ≡ num complete
      → room₀ ≡ twelve (2 + 4 * choice_rows choices) 0 0 (0x90 + y) start (choice_rows choices) ++ drop 12 room
      → room₁ ≡ paste room₀ 12 (tab (packed choices) 0 (16 * choice_rows choices)) (16 * choice_rows choices)
      → room₁ ≡ batch_request start choices complete ++ drop (length (batch_request start choices complete)) room
  unfolding batch_request
  batch-written y room₀ room₁ ey e0 e1 =
      behind (packed choices) (16 * choice_rows choices) 12
      (twelve (2 + 4 * choice_rows choices) 0 0 (0x90 + num complete) start (choice_rows choices)) room room₀ room₁ refl (e0 ∙ rw ey) e1
