-- A text that bytes are put into.
use Rattle.std.specs.Prelude.{◌≡◌, List, ℕ, ◌+◌, length}
use Rattle.std.proofs.lemmas.List.Edits.{sets}

-- bytes with `bytes` in them from `at` on
unfoldable pub written : List ℕ → ℕ → List ℕ → List ℕ
written text at bytes = sets text at bytes

-- a text after `bytes` were put into it from `at` on, and where they end
pub record Wrote (text : List ℕ) (at : ℕ) (bytes : List ℕ) (end : ℕ) (text₁ : List ℕ) : Type 0 where
  pub ends : end ≡ at + length bytes
  pub wrote : text₁ ≡ written text at bytes
