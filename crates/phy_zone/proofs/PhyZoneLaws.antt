-- 93h: which descriptors are sound, what is judged and written so far, and what the written records hold.
-- Assumes nothing.
use mathlib.Core.Path.{◌≡◌, refl, sym, ap, ◌∙◌, subst}
use mathlib.Core.Bool.{Bool, true, false, not}
use mathlib.Core.List.{List, [], ◌∷◌, ◌++◌}
use Prim.Native.Nat.{ℕ, zero, suc, ◌+◌, ◌-◌, ◌*◌, ◌/◌, ◌%◌, ◌≤◌, ◌<◌}
use native.Mathlib.Numerals.{add-one}
use native.Mathlib.Decide.{ℕ_discrete}
use native.Mathlib.Omega.{arith}
use borrow.Author.Tests.{lt-ltb, le-ltb, eq-eqb, ne_eqb, not-true, not-false}
use lib.Dec.{eqb}
use lib.ListN.{length, get_or, drop, set, length-set}
use lib.Seq.{get_or-set_same, get_or-set_other}
use Rattle.wire.proofs.Loops.{left}
use Rattle.permit.specs.Permission.{groups}
use Rattle.tables.specs.Refusals.{first_refusal}
use Rattle.tables.specs.Phys.{phy_record, phy_count, phy_byte, ready, ready_set, zoned}
use Rattle.tables.proofs.RefusalLaws.{clear}
use Rattle.tables.proofs.PhyLaws.{length-zoned}
use Rattle.requests.specs.Requests.{Leaves}
use Rattle.requests.proofs.RequestLaws.{leaves_done}
use Rattle.phy_zone.specs.PhyZone.{entries, start_phy, first, group, sound, all_sound, phy_zone_checks, configured, phy_zone_reply}
use Rattle.phy_zone.specs.Inner.{Fitting}

-- ---- whether a descriptor is sound, by each way out of the function that answers it
module _ (w b0 b1 : ℕ) where
  pub sound_high : groups w ≤ b1 → false ≡ sound w b0 b1
  unfolding sound
  sound_high h = rw (le-ltb b1 (groups w) h)

  pub sound_outside : b1 < groups w → (b0 / 16 % 2 ≡ 1 → ⊥) → true ≡ sound w b0 b1
  unfolding sound
  sound_outside h p = rw (lt-ltb b1 (groups w) h, ne_eqb (b0 / 16 % 2) 1 p)

  pub sound_inside : b1 < groups w → b0 / 16 % 2 ≡ 1 → eqb b1 1 ≡ sound w b0 b1
  unfolding sound
  sound_inside h p = rw (lt-ltb b1 (groups w) h, eq-eqb (b0 / 16 % 2) 1 p)

pub ruleset soundness = (sound_high, sound_outside, sound_inside)

-- ---- the loop that judges every descriptor: those before i are sound
pub record Judged (w : ℕ) (request : List ℕ) (k i : ℕ) : Type 0 where
  pub rest : all_sound w request 0 k ≡ all_sound w request i (k - i)

module _ (w : ℕ) (request : List ℕ) (k i : ℕ) (v : Bool) (h : i < k) (e : v ≡ sound w (first request i) (group request i)) (j : Judged w request k i) where
  pub judged_off : not v ≡ true → false ≡ all_sound w request 0 k
  unfolding all_sound
  judged_off t = sym (j.rest ∙ rw (left k i h, ← e, not-true v t))

  pub judged_again : not v ≡ false → Judged w request k (i + 1)
  unfolding all_sound
  judged_again t = record { rest = j.rest ∙ rw (left k i h, ← e, not-false v t, add-one i) }

pub judged_end : (w : ℕ) (request : List ℕ) (k i : ℕ) → k ≤ i → Judged w request k i → true ≡ all_sound w request 0 k
unfolding all_sound
judged_end w request k i h j = let z : k - i ≡ 0 = omega arith in sym (j.rest ∙ rw z)

-- ---- the loop that writes the records: what is left, done to the table as it is, is the whole, done to the table handed in
pub record Written (phys₀ request : List ℕ) (start k : ℕ) (phys : List ℕ) (i : ℕ) : Type 0 where
  pub same : length phys ≡ length phys₀
  pub rest : configured phys₀ request start 0 k ≡ configured phys request start i (k - i)

pub written_again : (phys₀ request : List ℕ) (start k : ℕ) (phys : List ℕ) (i : ℕ) (phys₁ : List ℕ) → i < k
    → phys₁ ≡ zoned phys (start + i) (first request i) (group request i)
    → Written phys₀ request start k phys i → Written phys₀ request start k phys₁ (i + 1)
unfolding configured
written_again phys₀ request start k phys i phys₁ h e w = record {
  same = ap length e ∙ length-zoned phys (start + i) (first request i) (group request i) ∙ w.same;
  rest = w.rest ∙ rw (left k i h, e, add-one i);
}

pub written_end : (phys₀ request : List ℕ) (start k : ℕ) (phys : List ℕ) (i : ℕ) → k ≤ i → Written phys₀ request start k phys i
    → phys ≡ configured phys₀ request start 0 k
unfolding configured
written_end phys₀ request start k phys i h w = let z : k - i ≡ 0 = omega arith in sym (w.rest ∙ rw z)

-- ---- what the written records hold
pub length-configured : (phys request : List ℕ) (start i n : ℕ) → length (configured phys request start i n) ≡ length phys
unfolding configured
length-configured phys request start i zero = refl
length-configured phys request start i (suc n) =
    length-configured (zoned phys (start + i) (first request i) (group request i)) request start (suc i) n
    ∙ length-zoned phys (start + i) (first request i) (group request i)

-- a store to another record, or past its bytes 0 and 1, is not seen
pub zoned_keeps : (phys : List ℕ) (i b0 b1 j m : ℕ) → m < phy_record → (j ≡ i → 2 ≤ m) → phy_byte (zoned phys i b0 b1) j m ≡ phy_byte phys j m
unfolding zoned
zoned_keeps phys i b0 b1 j m h k = go (ℕ_discrete j i)
  where
    other : (phy_record * j + m ≡ phy_record * i → ⊥) → (phy_record * j + m ≡ phy_record * i + 1 → ⊥)
        → get_or (set (set phys (phy_record * i) (b0 % 32)) (phy_record * i + 1) (b1 % 128)) (phy_record * j + m) 0 ≡ get_or phys (phy_record * j + m) 0
    other p q =
        get_or-set_other (set phys (phy_record * i) (b0 % 32)) (phy_record * i + 1) (phy_record * j + m) (b1 % 128) 0 q
        ∙ get_or-set_other phys (phy_record * i) (phy_record * j + m) (b0 % 32) 0 p

    go : Dec (j ≡ i) → get_or (set (set phys (phy_record * i) (b0 % 32)) (phy_record * i + 1) (b1 % 128)) (phy_record * j + m) 0 ≡ get_or phys (phy_record * j + m) 0
    go (yes e) = let l = k e in other (λ q. omega arith) (λ q. omega arith)
    go (no n) = other (λ q. n (omega arith)) (λ q. n (omega arith))

-- bytes 2 to 11 of every record stay
pub configured_keeps : (phys request : List ℕ) (start i n j m : ℕ) → 2 ≤ m → m < phy_record
    → phy_byte (configured phys request start i n) j m ≡ phy_byte phys j m
unfolding configured
configured_keeps phys request start i zero j m l h = refl
configured_keeps phys request start i (suc n) j m l h =
    configured_keeps (zoned phys (start + i) (first request i) (group request i)) request start (suc i) n j m l h
    ∙ zoned_keeps phys (start + i) (first request i) (group request i) j m h (λ e. l)

-- so no phy becomes ready, and none ceases to be
pub ready-configured : (phys request : List ℕ) (start i n j : ℕ) → ready (configured phys request start i n) j ≡ ready phys j
ready-configured phys request start i n j =
    ap (λ (x : ℕ). eqb (x % 2) 1) (configured_keeps phys request start i n j 2 (omega arith) (omega arith))

-- records before the run, and behind it, stay whole
pub configured-before : (phys request : List ℕ) (start i n j m : ℕ) → m < phy_record → j < start + i
    → phy_byte (configured phys request start i n) j m ≡ phy_byte phys j m
unfolding configured
configured-before phys request start i zero j m h b = refl
configured-before phys request start i (suc n) j m h b =
    configured-before (zoned phys (start + i) (first request i) (group request i)) request start (suc i) n j m h (omega arith)
    ∙ zoned_keeps phys (start + i) (first request i) (group request i) j m h (λ e. omega arith)

pub configured_behind : (phys request : List ℕ) (start i n j m : ℕ) → m < phy_record → start + i + n ≤ j
    → phy_byte (configured phys request start i n) j m ≡ phy_byte phys j m
unfolding configured
configured_behind phys request start i zero j m h b = refl
configured_behind phys request start i (suc n) j m h b =
    configured_behind (zoned phys (start + i) (first request i) (group request i)) request start (suc i) n j m h (omega arith)
    ∙ zoned_keeps phys (start + i) (first request i) (group request i) j m h (λ e. omega arith)

-- each record of the run has its own descriptor, the last as the first
pub zoned-first : (phys : List ℕ) (i b0 b1 : ℕ) → i < phy_count phys → phy_byte (zoned phys i b0 b1) i 0 ≡ b0 % 32
unfolding zoned
zoned-first phys i b0 b1 h =
    let z : phy_record * i + 0 ≡ phy_record * i = omega arith in
    rw z
    (get_or-set_other (set phys (phy_record * i) (b0 % 32)) (phy_record * i + 1) (phy_record * i) (b1 % 128) 0 (λ q. omega arith)
    ∙ get_or-set_same phys (phy_record * i) (b0 % 32) 0 (omega arith))

pub zoned-group : (phys : List ℕ) (i b0 b1 : ℕ) → i < phy_count phys → phy_byte (zoned phys i b0 b1) i 1 ≡ b1 % 128
unfolding zoned
zoned-group phys i b0 b1 h =
    get_or-set_same (set phys (phy_record * i) (b0 % 32)) (phy_record * i + 1) (b1 % 128) 0 (simp length-set (omega arith))

pub configured-holds : (phys request : List ℕ) (start i n d : ℕ) → i ≤ d → d < i + n → start + d < phy_count phys
    → (phy_byte (configured phys request start i n) (start + d) 0 ≡ first request d % 32)
    × (phy_byte (configured phys request start i n) (start + d) 1 ≡ group request d % 128)
unfolding configured
configured-holds phys request start i zero d l u t = absurd (omega arith)
configured-holds phys request start i (suc n) d l u t =
    go (ℕ_discrete d i) (configured-holds (zoned phys (start + i) (first request i) (group request i)) request start (suc i) n d)
  where
    next : List ℕ
    next = zoned phys (start + i) (first request i) (group request i)

    Holds : ℕ → Type 0
    Holds e =
        (phy_byte (configured next request start (suc i) n) (start + e) 0 ≡ first request e % 32)
        × (phy_byte (configured next request start (suc i) n) (start + e) 1 ≡ group request e % 128)

    kept : (m : ℕ) → m < phy_record → phy_byte (configured next request start (suc i) n) (start + i) m ≡ phy_byte next (start + i) m
    kept m h = configured-before next request start (suc i) n (start + i) m h (omega arith)

    go : Dec (d ≡ i) → (suc i ≤ d → d < suc i + n → start + d < phy_count next → Holds d) → Holds d
    go (yes e) later =
        subst Holds (sym e) (
          kept 0 (omega arith) ∙ zoned-first phys (start + i) (first request i) (group request i) (omega arith),
          kept 1 (omega arith) ∙ zoned-group phys (start + i) (first request i) (group request i) (omega arith),
        )
    go (no ne) later = later (omega arith) (omega arith) (rw (length-zoned phys (start + i) (first request i) (group request i)) t)

-- ---- what the rule gives where its checks answer nothing
module _ (w : ℕ) (phys permissions : List ℕ) (phy carried : ℕ) (request : List ℕ)
    (e : 0 ≡ first_refusal (phy_zone_checks w phys permissions phy carried request)) where
  -- its descriptors and their phys are there
  pub accepted_fits : length phys ≤ 128 * phy_record → Fitting phys request
  accepted_fits m =
      let k = clear (phy_zone_checks w phys permissions phy carried request) 0 e refl tt in
      record { head = omega arith; described = omega arith; there = omega arith; most = m }

  pub configure_done : (response set phys₁ response₁ set₁ : List ℕ)
      → phys₁ ≡ configured phys request (start_phy request) 0 (entries request)
      → response₁ ≡ (0x41 ∷ 0x93 ∷ 0x00 ∷ 0 ∷ []) ++ drop 4 response
      → set₁ ≡ ready_set phys ++ drop 16 set
      → Leaves 0x93 (phy_zone_reply w phys permissions phy carried request) response set 0x00 4 phys₁ permissions response₁ set₁
  unfolding phy_zone_reply
  configure_done response set phys₁ response₁ set₁ ep er es =
      leaves_done 0x93 _ _ phys permissions response set 0x00 4 phys₁ permissions response₁ set₁ e
      (record { answered = refl; counted = refl; phys_then = ep; permissions_then = refl; responded = er; told = es })
