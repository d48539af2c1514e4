-- A group byte from outside: where it is none, and where it is a group.
-- Assumes nothing.
use mathlib.Core.Path.{◌≡◌, sym, ◌∙◌, subst}
use mathlib.Core.Bool.{true, false, not}
use Prim.Native.Nat.{ℕ, ◌≤◌, ◌<◌}
use native.Mathlib.Decide.{dec_lt}
use native.Mathlib.Omega.{arith}
use borrow.Author.Tests.{lt-ltb, le-ltb}
use Rattle.wire.specs.declared.ZoneGroup.{ZoneGroup}
use Rattle.std.proofs.Common.{Option, Some, None}
use Rattle.wire.specs.Groups.{outside_group, is_group}

pub outside_none : (b : ℕ) → 127 < b → None ≡ outside_group b
unfolding outside_group
outside_none b h = rw (lt-ltb 127 b h)

pub outside_some : (b : ℕ) → b ≤ 127 → Some (record { 0 = b }) ≡ outside_group b
unfolding outside_group
outside_some b h = rw (le-ltb 127 b h)

-- as a caller has it: o is what was answered for m, and it was taken apart
pub taken_group : {o m : Option ZoneGroup} {g : ZoneGroup} → o ≡ m → o ≡ Some g → not (is_group m) ≡ false
taken_group e s = rw (sym e ∙ s)

pub taken_none : {o m : Option ZoneGroup} → o ≡ m → o ≡ None → not (is_group m) ≡ true
taken_none e s = rw (sym e ∙ s)

-- none is no group
apart : {g : ZoneGroup} → None ≡ Some g → ⊥
apart e = subst Told e tt
  where
    Told : Option ZoneGroup → Type 0
    Told None = Unit
    Told (Some g) = ⊥

-- a group from outside has the byte's number, which is below 128
pub outside_number : (b : ℕ) (g : ZoneGroup) → outside_group b ≡ Some g → (g.0 ≡ b) × (b < 128)
outside_number b g e = go (dec_lt 127 b)
  where
    go : Dec (127 < b) → (g.0 ≡ b) × (b < 128)
    go (yes h) = absurd (apart (outside_none b h ∙ e))
    go (no h) = let q = outside_some b (omega arith) in (cc, omega arith)
