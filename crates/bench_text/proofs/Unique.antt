-- The contracts leave one outcome: a run's answer with its text and both tables; the end's is `rack`'s `one_text`.
-- Assumes nothing.
use mathlib.Core.Path.{◌≡◌}
use mathlib.Core.List.{List}
use Prim.Native.Nat.{ℕ}
use Rattle.bench_text.specs.Run.{Ran, Told}

pub one_run : (r : Ran) (text : List ℕ) (taken taken' number number' used used' : ℕ) (text₁ text₁' phys phys' permissions permissions' : List ℕ)
    → Told r text taken number used text₁ phys permissions → Told r text taken' number' used' text₁' phys' permissions'
    → (taken ≡ taken') × (number ≡ number') × (used ≡ used') × (text₁ ≡ text₁') × (phys ≡ phys') × (permissions ≡ permissions')
one_run r text taken taken' number number' used used' text₁ text₁' phys phys' permissions permissions' p q = (cc, cc, cc, cc, cc, cc)
