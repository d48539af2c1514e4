-- A call's words: its answer, as the code's enum has it, is what was put into the text.
-- Assumes nothing.
use mathlib.Core.Path.{◌≡◌, refl, ap, ◌∙◌, subst}
use mathlib.Core.Bool.{cond}
use mathlib.Core.List.{List, [], ◌∷◌}
use Prim.Native.Nat.{ℕ, ◌+◌, ◌≤◌}
use borrow.Author.Tests.{eq-eqb}
use lib.Dec.{eqb}
use Rattle.tables.specs.Outcome.{Answer, Out, out}
use Rattle.links.specs.Links.{identify_out}
use Rattle.lines.specs.Words.{words, reply_words, link_words}
use Rattle.lines.specs.Written.{Wrote}
use Rattle.call_words.specs.Gives.{Given, unknown, given, answer_of, buffer, smp_left, link_left}
use Rattle.call_words.specs.Inner.{Gave}

-- ---- a call's words, where a is its answer and o all that it leaves
module _ (a : Answer) (t : List ℕ) (at end : ℕ) (t₁ : List ℕ) (o : Out) where
  said_as : (f : List ℕ → List ℕ) (bs : List (List ℕ)) → out a bs ≡ o → Wrote t at (words f a) end t₁ → Wrote t at (words f (answer_of o)) end t₁
  said_as f bs p w = subst (λ (z : Out). Wrote t at (words f (answer_of z)) end t₁) p w

  -- a call that is lent no table
  pub gave : (f : List ℕ → List ℕ) (bs : List (List ℕ)) (phys permissions : List ℕ) → out a bs ≡ o
      → Wrote t at (words f a) end t₁ → end ≤ at + 31 → Gave (given f o phys permissions) t at end t₁ phys permissions
  gave f bs phys permissions p w s = record { said = said_as f bs p w; short = s; phys = refl; permissions = refl }

  -- one that is lent the phy table
  pub gave_link : (phys permissions : List ℕ) → out a (phys ∷ []) ≡ o
      → Wrote t at (words link_words a) end t₁ → end ≤ at + 31 → Gave (link_left o permissions) t at end t₁ phys permissions
  gave_link phys permissions p w s = record { said = said_as link_words _ p w; short = s; phys = ap (buffer 0) p; permissions = refl }

  -- one that is lent both
  pub gave_smp : (phys permissions response set : List ℕ) → out a (phys ∷ permissions ∷ response ∷ set ∷ []) ≡ o
      → Wrote t at (words reply_words a) end t₁ → end ≤ at + 31 → Gave (smp_left o) t at end t₁ phys permissions
  gave_smp phys permissions response set p w s = record { said = said_as reply_words _ p w; short = s; phys = ap (buffer 0) p; permissions = ap (buffer 1) p }

-- the address of an IDENTIFY is its payload
pub of_payload : (phys : List ℕ) (phy : ℕ) (address payload : List ℕ) (device attached : ℕ) (o : Out)
    → o ≡ identify_out phys phy address device attached → address ≡ payload → o ≡ identify_out phys phy payload device attached
of_payload phys phy address payload device attached o e p = e ∙ ap (λ (l : List ℕ). identify_out phys phy l device attached) p

-- ---- a payload of the right length
module _ (g : Given) (t : List ℕ) (at end : ℕ) (t₁ phys permissions : List ℕ) (n m : ℕ) where
  pub right-length : (phys₁ : List ℕ) → n ≡ m → Gave g t at end t₁ phys₁ permissions → Gave (cond (eqb n m) g (unknown phys permissions)) t at end t₁ phys₁ permissions
  right-length phys₁ h w = rw (eq-eqb n m h) w
