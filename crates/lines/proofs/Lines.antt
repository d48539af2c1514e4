-- A text that bytes are put into: one run after another, bytes copied, and the digits of a number.
-- Assumes nothing.
use mathlib.Core.Path.{◌≡◌, refl, sym, ap, ◌∙◌}
use mathlib.Core.Bool.{cond}
use mathlib.Core.List.{List, [], ◌∷◌, ◌++◌, append_assoc}
use Prim.Native.Nat.{ℕ, zero, suc, ◌+◌, ◌-◌, ◌*◌, ◌/◌, ◌%◌, ◌^◌, ◌≤◌, ◌<◌}
use native.Mathlib.Nat.{add-zero, pow-suc}
use native.Mathlib.Numerals.{add-one}
use native.Mathlib.Decide.{dec_lt}
use native.Mathlib.Omega.{arith}
use borrow.Author.Tests.{lt-ltb, le-ltb}
use lib.Dec.{ltb}
use lib.ListN.{length, take, drop, set, length-set, length-take, length-drop, length-append, drop_of_length-le}
use lib.Seq.{sets, sets-eq, length-sets, paste, take_all, drop-cons, drop-set-lt, get_or-set_same}
use Rattle.lines.specs.Text.{digits, decimal, space, hex_digit, hex, line}
use Rattle.lines.specs.Words.{S, O, T, reply_words, outcome_words}
use Rattle.lines.specs.Written.{written, Wrote}

pub length-written : (t : List ℕ) (at : ℕ) (w : List ℕ) → length (written t at w) ≡ length t
unfolding written
length-written t at w = length-sets t at w

-- two runs, one behind the other, are one
pub written-append : (a b t : List ℕ) (at : ℕ) → written t at (a ++ b) ≡ written (written t at a) (at + length a) b
unfolding written
written-append [] b t at = ap (λ (n : ℕ). sets t n b) (sym (add-zero at))
written-append (x ∷ a) b t at =
    let e : suc at + length a ≡ at + suc (length a) = omega arith in
    written-append a b (set t at x) (suc at) ∙ ap (λ (n : ℕ). sets (sets (set t at x) (suc at) a) n b) e

-- ---- bytes copied
pub copy_done : (bytes t : List ℕ) (at : ℕ) (t₁ : List ℕ) → at + length bytes ≤ length t → t₁ ≡ paste t at (drop 0 bytes) (length bytes)
    → Wrote t at bytes (at + length bytes) t₁
unfolding written
copy_done bytes t at t₁ h e = record {
  ends = refl;
  wrote =
      e
      ∙ ap (λ (l : List ℕ). take at t ++ l ++ drop (at + length bytes) t) (take_all (length bytes) bytes (omega arith))
      ∙ sym (sets-eq bytes t at h);
}

-- ---- the digits of a number, from the lowest
-- the digits behind `start` are in place, and those of `rest` go before them
pub record Spelt (n : ℕ) (figures : List ℕ) (start rest : ℕ) : Type 0 where
  pub inside : start < 20
  pub whole : length figures ≡ 20
  pub fits : rest < 10 ^ (start + 1)
  pub spelt : decimal n ≡ digits (start + 1) rest (drop (start + 1) figures)

pub spell_start : (n : ℕ) (figures : List ℕ) → length figures ≡ 20 → n < 18446744073709551616 → Spelt n figures 19 n
unfolding decimal
spell_start n figures e h = record {
  inside = omega arith;
  whole = e;
  fits = omega arith;
  spelt = ap (digits 20 n) (sym (drop_of_length-le figures (none figures e)));
}
  where
    none : (l : List ℕ) → length l ≡ 20 → length l ≤ 20
    none l p = omega arith

-- a turn: while more than one digit is left, there is a place before
pub spell_room : (n : ℕ) (figures : List ℕ) (start rest : ℕ) → 9 < rest → Spelt n figures start rest → 0 < start
spell_room n figures zero rest h r = let f = r.fits in absurd (omega arith)
spell_room n figures (suc start) rest h r = omega arith

-- one digit more stands before the others
set_front : (l : List ℕ) (i x : ℕ) → i < length l → drop i (set l i x) ≡ x ∷ drop (i + 1) l
set_front l i x h =
    let k : i < length (set l i x) = rw length-set h in
    drop-cons (set l i x) i 0 k
    ∙ rw (get_or-set_same l i x 0 h, add-one i, drop-set-lt (suc i) l i x (omega arith))

pub spell_again : (n : ℕ) (figures : List ℕ) (start rest : ℕ) → 9 < rest → Spelt n figures start rest
    → Spelt n (set figures start (48 + rest % 10)) (start - 1) (rest / 10)
unfolding digits
spell_again n figures zero rest h r = let f = r.fits in absurd (omega arith)
spell_again n figures (suc start) rest h r =
    let i = r.inside in
    let w = r.whole in
    let d = 48 + rest % 10 in
    let e : suc start - 1 + 1 ≡ suc start = omega arith in
    let f : rest < 10 ^ suc start * 10 = rw (add-one, pow-suc) at r.fits in
    record {
      inside = omega arith;
      whole = length-set figures (suc start) d ∙ w;
      fits = rw e (omega arith);
      spelt =
          r.spelt
          ∙ rw (add-one (suc start), le-ltb rest 10 (omega arith), ← add-one (suc start), e, set_front figures (suc start) d (omega arith));
    }

pub spell_end : (n : ℕ) (figures : List ℕ) (start rest : ℕ) → rest ≤ 9 → Spelt n figures start rest
    → (start < 20) × (drop start (set figures start (48 + rest)) ≡ decimal n)
unfolding digits
spell_end n figures start rest h r =
    let w = r.whole in
    let i = r.inside in
    (omega arith, set_front figures start (48 + rest) (omega arith) ∙ sym (r.spelt ∙ rw (add-one start, lt-ltb rest 10 (omega arith))))

-- ---- one byte, and two digits
pub byte_done : (t : List ℕ) (at b : ℕ) → Wrote t at (b ∷ []) (at + 1) (set t at b)
unfolding written
byte_done t at b = record { ends = refl; wrote = refl }

pub hex_done : (t : List ℕ) (at n a b : ℕ) → a ≡ hex_digit (n / 16 % 16) → b ≡ hex_digit (n % 16) → Wrote t at (hex n) (at + 2) (set (set t at a) (at + 1) b)
unfolding written
hex_done t at n a b ea eb = record { ends = refl; wrote = rw (add-one, ea, eb) }

-- how many digits there are
length_digits : (most n k : ℕ) (rest : List ℕ) → 0 < k → n < 10 ^ k → length (digits most n rest) ≤ k + length rest
unfolding digits
length_digits zero n k rest z h = omega arith
length_digits (suc most) n k rest z h = go (λ j. length_digits most (n / 10) j ((48 + n % 10) ∷ rest)) (dec_lt n 10) k z h
  where
    go : ((j : ℕ) → 0 < j → n / 10 < 10 ^ j → length (digits most (n / 10) ((48 + n % 10) ∷ rest)) ≤ j + suc (length rest))
        → Dec (n < 10) → (j : ℕ) → 0 < j → n < 10 ^ j → length (cond (ltb n 10) ((48 + n) ∷ rest) (digits most (n / 10) ((48 + n % 10) ∷ rest))) ≤ j + length rest
    go less (yes l) j y g = rw (lt-ltb n 10 l) (omega arith)
    go less (no l) zero y g = absurd (omega arith)
    go less (no l) (suc zero) y g = absurd (omega arith)
    go less (no l) (suc (suc j)) y g =
        let f : n < 10 ^ suc j * 10 = rw pow-suc at g in
        rw (le-ltb n 10 (omega arith)) (omega (arith, less (suc j) (omega arith) (omega arith)))

pub short_decimal : (n : ℕ) → n < 100000 → length (decimal n) ≤ 5
unfolding decimal
short_decimal n h = length_digits 20 n 5 [] (omega arith) (omega arith)

-- the digits stand at the end of the twenty
pub decimal_done : (n : ℕ) (figures : List ℕ) (start : ℕ) (t : List ℕ) (at end : ℕ) (t₁ : List ℕ) → length figures ≡ 20
    → (start < 20) × (drop start figures ≡ decimal n) → Wrote t at (take (20 - start) (drop start figures)) end t₁ → Wrote t at (decimal n) end t₁ × (end ≤ at + 20)
decimal_done n figures start t at end t₁ e d w =
    let l : length (drop start figures) ≤ 20 - start = simp length-drop (omega arith) in
    let q : take (20 - start) (drop start figures) ≡ decimal n = take_all (20 - start) (drop start figures) l ∙ d.1 in
    let m : length (take (20 - start) (drop start figures)) ≤ 20 = simp (length-take, length-drop) (omega arith) in
    (rw (sym q) w, omega (arith, w.ends))

pub short_done : (n : ℕ) (t : List ℕ) (at end : ℕ) (t₁ : List ℕ) → n < 65536 → Wrote t at (decimal n) end t₁ × (end ≤ at + 20)
    → Wrote t at (decimal n) end t₁ × (end ≤ at + 5)
short_done n t at end t₁ h w = (w.0, omega (arith, w.0.ends, short_decimal n (omega arith)))

-- ---- one run behind another
pub behind : {t : List ℕ} {at : ℕ} {a : List ℕ} {end : ℕ} {t₁ : List ℕ} {b : List ℕ} {end₁ : ℕ} {t₂ : List ℕ}
    → Wrote t at a end t₁ → Wrote t₁ end b end₁ t₂ → Wrote t at (a ++ b) end₁ t₂
behind {t} {at} {a} {end} {t₁} {b} {end₁} {t₂} v w = record {
  ends = omega (arith, v.ends, w.ends, length-append a b);
  wrote = w.wrote ∙ rw (v.wrote, v.ends) (sym (written-append a b t at));
}

pub count_done : (letter n : ℕ) (t : List ℕ) (at a : ℕ) (t₁ : List ℕ) (b : ℕ) (t₂ : List ℕ) (c : ℕ) (t₃ : List ℕ)
    → Wrote t at (letter ∷ []) a t₁ → Wrote t₁ a (space ∷ []) b t₂ → Wrote t₂ b (decimal n) c t₃ × (c ≤ b + 20)
    → Wrote t at (letter ∷ space ∷ decimal n) c t₃ × (c ≤ at + 22)
count_done letter n t at a t₁ b t₂ c t₃ u v w = (behind (behind u v) w.0, omega (arith, u.ends, v.ends))

pub reply_done : (result bytes told : ℕ) (t : List ℕ) (at a : ℕ) (t₁ : List ℕ) (b : ℕ) (t₂ : List ℕ) (c : ℕ) (t₃ : List ℕ) (d : ℕ) (t₄ : List ℕ) (e : ℕ) (t₅ : List ℕ) (f : ℕ) (t₆ : List ℕ)
    → Wrote t at (S ∷ space ∷ []) a t₁ → Wrote t₁ a (hex result) b t₂ → Wrote t₂ b (space ∷ []) c t₃ → Wrote t₃ c (decimal bytes) d t₄ × (d ≤ c + 5)
    → Wrote t₄ d (space ∷ []) e t₅ → Wrote t₅ e (decimal told) f t₆ × (f ≤ e + 20)
    → Wrote t at (reply_words (result ∷ bytes ∷ told ∷ [])) f t₆ × (f ≤ at + 31)
reply_done result bytes told t at a t₁ b t₂ c t₃ d t₄ e t₅ f t₆ p q r s u v =
    (behind (behind (behind (behind p q) r) s.0) (behind u v.0), omega (arith, p.ends, q.ends, r.ends, u.ends))

pub forward_done : (phy : ℕ) (t : List ℕ) (at a : ℕ) (t₁ : List ℕ) (b : ℕ) (t₂ : List ℕ)
    → Wrote t at (O ∷ space ∷ 70 ∷ 87 ∷ 68 ∷ space ∷ []) a t₁ → Wrote t₁ a (decimal phy) b t₂ × (b ≤ a + 20)
    → Wrote t at (outcome_words (4 ∷ phy ∷ [])) b t₂ × (b ≤ at + 31)
forward_done phy t at a t₁ b t₂ p q = (behind p q.0, omega (arith, p.ends))

-- ---- whole lines, and a buffer that is written whole
pub line_done : (number : ℕ) (w t : List ℕ) (a : ℕ) (t₁ : List ℕ) (b : ℕ) (t₂ : List ℕ) (c : ℕ) (t₃ : List ℕ) (d : ℕ) (t₄ : List ℕ)
    → Wrote t 0 (decimal number) a t₁ → Wrote t₁ a (space ∷ []) b t₂ → Wrote t₂ b w c t₃ → Wrote t₃ c (10 ∷ []) d t₄ → Wrote t 0 (line number w) d t₄
unfolding line
line_done number w t a t₁ b t₂ c t₃ d t₄ p q r s = behind (behind p (behind q r)) s

pub cut_done : (number : ℕ) (t : List ℕ) (a : ℕ) (t₁ : List ℕ) (b : ℕ) (t₂ : List ℕ)
    → Wrote t 0 (decimal number) a t₁ × (a ≤ 0 + 20) → Wrote t₁ a (space ∷ T ∷ 10 ∷ []) b t₂ → Wrote t 0 (line number (T ∷ [])) b t₂ × (b ≤ 64)
unfolding line
cut_done number t a t₁ b t₂ p q =
    (rw (append_assoc (decimal number) (space ∷ T ∷ []) (10 ∷ [])) (behind p.0 q), omega (arith, q.ends))
