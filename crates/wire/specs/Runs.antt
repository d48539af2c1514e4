-- What is said, or written, of i, i + 1, .., n of them.
use Rattle.std.specs.Prelude.{Bool, true, ◌&&◌, List, [], ◌++◌, ℕ, zero, suc}

-- f holds of each
unfoldable pub every : (ℕ → Bool) → ℕ → ℕ → Bool
every f i zero = true
every f i (suc n) = f i && every f (suc i) n

-- "ascending": the text of each, one behind the other
unfoldable pub texts : (ℕ → List ℕ) → ℕ → ℕ → List ℕ
texts f i zero = []
texts f i (suc n) = f i ++ texts f (suc i) n
