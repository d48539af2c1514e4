-- The contracts leave one outcome: what is put into a text, and what a line leaves of it and of the tables.
-- Assumes nothing.
use mathlib.Core.Path.{◌≡◌}
use mathlib.Core.List.{List}
use Prim.Native.Nat.{ℕ}
use Rattle.call_words.specs.Gives.{Given}
use Rattle.lines.specs.Written.{Wrote}
use Rattle.events.specs.Inner.{Lined}

pub one_text : (text : List ℕ) (at : ℕ) (bytes : List ℕ) (end end' : ℕ) (text₁ text₁' : List ℕ)
    → Wrote text at bytes end text₁ → Wrote text at bytes end' text₁' → (end ≡ end') × (text₁ ≡ text₁')
one_text text at bytes end end' text₁ text₁' p q = (cc, cc)

pub one_line : (number : ℕ) (g : Given) (text : List ℕ) (end end' : ℕ) (text₁ text₁' phys phys' permissions permissions' : List ℕ)
    → Lined number g text end text₁ phys permissions → Lined number g text end' text₁' phys' permissions'
    → (end ≡ end') × (text₁ ≡ text₁') × (phys ≡ phys') × (permissions ≡ permissions')
one_line number g text end end' text₁ text₁' phys phys' permissions permissions' p q = (cc, cc, cc, cc)
