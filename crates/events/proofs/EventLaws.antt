-- Events: the kind picks the call, its words make a line; and how long an event is.
-- Assumes nothing.
use mathlib.Core.Path.{◌≡◌, refl, sym, ap, ◌∙◌, subst}
use mathlib.Core.List.{List, [], ◌∷◌}
use Prim.Native.Nat.{ℕ, ◌+◌, ◌-◌, ◌*◌, ◌≤◌, ◌<◌}
use native.Mathlib.Omega.{arith}
use borrow.Author.Tests.{ne_eqb, lt-ltb, le-ltb}
use lib.ListN.{length, take, drop, get_or, length-drop}
use lib.Seq.{take_all}
use Rattle.std.specs.Prelude.{◌≢◌}
use Rattle.lines.specs.Text.{decimal, space}
use Rattle.lines.specs.Words.{K}
use Rattle.lines.specs.Written.{Wrote}
use Rattle.lines.proofs.Lines.{line_done}
use Rattle.call_words.specs.Gives.{Given}
use Rattle.call_words.specs.Inner.{Gave}
use Rattle.events.specs.declared.kind.Kind.{Kind}
use Rattle.events.specs.declared.kind.Kind.TheVariants.{Smp, Open, Primitive, Frame, Identify, Leaving}
use Rattle.events.specs.Kinds.{byte_of}
use Rattle.events.specs.Events.{gives, event_gives, event_length}
use Rattle.events.specs.Inner.{Lined}

-- ---- the kinds; the code's payload is the part of the event from byte 5 to its end
payload_is : (event : List ℕ) → take (length event - 5) (drop 5 event) ≡ drop 5 event
payload_is event = take_all (length event - 5) (drop 5 event) (simp length-drop (omega arith))

module _ (event phys permissions t : List ℕ) (at end : ℕ) (t₁ phys₁ permissions₁ : List ℕ) where
  pub of_kind : (kind known : Kind) → known ≡ kind → byte_of known ≡ get_or event 0 0
      → Gave (gives (byte_of kind) (get_or event 1 0) (get_or event 2 0) (take (length event - 5) (drop 5 event)) phys permissions) t at end t₁ phys₁ permissions₁
      → Gave (event_gives event phys permissions) t at end t₁ phys₁ permissions₁
  unfolding event_gives
  of_kind kind known e b g =
      subst
      (λ (k : ℕ). Gave (gives k (get_or event 1 0) (get_or event 2 0) (drop 5 event) phys permissions) t at end t₁ phys₁ permissions₁)
      (sym (ap byte_of e) ∙ b)
      (rw (payload_is event) at g)

module _ (event phys permissions t : List ℕ) (at end : ℕ) (t₁ : List ℕ) where
  pub of_another_kind : ((kind : Kind) → byte_of kind ≢ get_or event 0 0) → Wrote t at (K ∷ []) end t₁ → Gave (event_gives event phys permissions) t at end t₁ phys permissions
  unfolding event_gives gives
  of_another_kind n w =
      rw (
        ne_eqb _ 1 (λ e. n Smp (sym e)),
        ne_eqb _ 2 (λ e. n Open (sym e)),
        ne_eqb _ 3 (λ e. n Primitive (sym e)),
        ne_eqb _ 4 (λ e. n Frame (sym e)),
        ne_eqb _ 5 (λ e. n Identify (sym e)),
        ne_eqb _ 6 (λ e. n Leaving (sym e)),
      )
      (record { said = w; short = omega (arith, w.ends); phys = refl; permissions = refl })

-- ---- the whole line
pub lined : (number : ℕ) (g : Given) (t : List ℕ) (a : ℕ) (t₁ : List ℕ) (b : ℕ) (t₂ : List ℕ) (c : ℕ) (t₃ : List ℕ) (d : ℕ) (t₄ phys permissions : List ℕ)
    → Wrote t 0 (decimal number) a t₁ × (a ≤ 0 + 20) → Wrote t₁ a (space ∷ []) b t₂ → Gave g t₂ b c t₃ phys permissions → Wrote t₃ c (10 ∷ []) d t₄
    → Lined number g t d t₄ phys permissions
lined number g t a t₁ b t₂ c t₃ d t₄ phys permissions p q r s = record {
  said = line_done number g.said t a t₁ b t₂ c t₃ d t₄ p.0 q r.said s;
  short = omega (arith, q.ends, r.short, s.ends);
  phys = r.phys;
  permissions = r.permissions;
}

-- ---- how long an event is
module _ (bytes : List ℕ) where
  pub no_header : length bytes < 5 → event_length bytes ≡ 0
  unfolding event_length
  no_header h = rw (lt-ltb _ _ h)

  module _ (n : ℕ) (h : 5 ≤ length bytes) (e : n ≡ get_or bytes 3 0 * 256 + get_or bytes 4 0) where
    pub no_payload : length (take (length bytes - 5) (drop 5 bytes)) < n → event_length bytes ≡ 0
    unfolding event_length
    no_payload l =
        let k = rw (payload_is bytes, length-drop) at l in
        rw (le-ltb _ _ h, ← e, lt-ltb (length bytes) (5 + n) (omega arith))

    pub whole_event : n ≤ length (take (length bytes - 5) (drop 5 bytes)) → (5 + n ≡ event_length bytes) × (0 < 5 + n) × (5 + n ≤ length bytes)
    unfolding event_length
    whole_event l =
        let k = rw (payload_is bytes, length-drop) at l in
        let m : 5 + n ≤ length bytes = omega arith in
        (rw (le-ltb _ _ h, ← e, le-ltb _ _ m), omega arith, m)
