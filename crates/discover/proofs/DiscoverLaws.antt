-- 10h: who is shown a phy, what the response's bytes are, and what an accepted request leaves.
-- Assumes nothing.
use mathlib.Core.Path.{◌≡◌, refl, sym, ap, ap₂, ◌∙◌}
use mathlib.Core.Bool.{Bool, true, false, cond, not, ◌||◌}
use mathlib.Core.List.{List, [], ◌∷◌, ◌++◌}
use Prim.Native.Nat.{ℕ, zero, suc, ◌+◌, ◌*◌, ◌/◌, ◌%◌, ◌≤◌, ◌<◌}
use native.Mathlib.Omega.{arith}
use mir.Val.{bool_byte}
use borrow.Author.Tests.{eq-eqb, ne_eqb}
use lib.ListN.{length, get_or, set, take, drop, replicate}
use lib.Seq.{drop-cons}
use Rattle.wire.specs.Bits.{num, tab}
use Rattle.wire.proofs.BitLaws.{byte_num}
use Rattle.wire.proofs.Loops.{length-tab}
use Rattle.tables.specs.Refusals.{first_refusal}
use Rattle.tables.specs.Phys.{phy_record, phy_count, phy_byte, phy_group, participating, ready, device_type, attached_phy, empty_set}
use Rattle.tables.proofs.RefusalLaws.{clear, rows}
use Rattle.requests.specs.Requests.{smp_source, source_reaches, turned_down, Leaves}
use Rattle.requests.proofs.RequestLaws.{turns_down, leaves_done}
use Rattle.discover.specs.declared.Changes.{Changes}
use Rattle.discover.specs.Discover.{asked_phy, length_said, reaches_phy, shown, discover_checks, byte_at, plain_fields, attached_fields, description, discover_reply}
use Rattle.discover.specs.Inner.{fields_in, attached_in}

-- ---- `is_shown`
module _ (w : ℕ) (phys permissions : List ℕ) (phy carried : ℕ) (request : List ℕ) where
  pub shown_ignoring : get_or request 8 0 % 2 ≡ 1 → true ≡ shown w phys permissions phy carried request
  unfolding shown
  shown_ignoring e = sym (ap (λ (b : Bool). b || reaches_phy w phys permissions phy carried (asked_phy request)) (eq-eqb (get_or request 8 0 % 2) 1 e))

  -- where the bit is zero, P decides
  pub shown_heeding : (get_or request 8 0 % 2 ≡ 1 → ⊥) → shown w phys permissions phy carried request ≡ reaches_phy w phys permissions phy carried (asked_phy request)
  unfolding shown
  shown_heeding h = ap (λ (b : Bool). b || reaches_phy w phys permissions phy carried (asked_phy request)) (ne_eqb (get_or request 8 0 % 2) 1 h)

  pub shown_reached : (v : Bool) (g : ℕ) → (get_or request 8 0 % 2 ≡ 1 → ⊥) → g ≡ phy_group phys (asked_phy request)
      → v ≡ source_reaches w permissions (smp_source phys phy carried) g → v ≡ shown w phys permissions phy carried request
  unfolding reaches_phy
  shown_reached v g h eg e = e ∙ ap (source_reaches w permissions (smp_source phys phy carried)) eg ∙ sym (shown_heeding h)

-- ---- the response's bytes
-- n bytes of s from place b + k on
run-tab : (s : List ℕ) (b k n : ℕ) → b + k + n ≤ length s → take n (drop (b + k) s) ≡ tab (λ (j : ℕ). get_or s (b + j) 0) k n
unfolding tab
run-tab s b k zero h = refl
run-tab s b k (suc n) h =
    let e : suc (b + k) ≡ b + suc k = omega arith in
    ap (take (suc n)) (drop-cons s (b + k) 0 (omega arith))
    ∙ ap (λ (l : List ℕ). get_or s (b + k) 0 ∷ l) (ap (λ (m : ℕ). take n (drop m s)) e ∙ run-tab s b (suc k) n (omega arith))

-- ---- `write_fields`: whether the phy participates, and its group, as callees answered them
pub fields_stored : (phys : List ℕ) (i : ℕ) (changes : Changes) (s t : List ℕ) (b : Bool) (g : ℕ) → b ≡ participating phys i → g ≡ phy_group phys i
    → t ≡ set (set (set (set (set (set s 4 (changes.expander / 256)) 5 (changes.expander % 256)) 9 i) 42 changes.phy) 60 (bool_byte b * 2 + 1)) 63 g
    → t ≡ fields_in phys i changes s
unfolding fields_in
fields_stored phys i changes s t b g eb eg e =
    e ∙ ap₂ (λ (z x : ℕ). set (set (set (set (set (set s 4 (changes.expander / 256)) 5 (changes.expander % 256)) 9 i) 42 changes.phy) 60 z) 63 x)
    (ap (λ (n : ℕ). n * 2 + 1) (byte_num b) ∙ ap (λ (x : Bool). num x * 2 + 1) eb) eg

-- ---- the whole response: a head, zeros behind it, and the stores
abbrev blanks : List ℕ → List ℕ
blanks response = (0x41 ∷ 0x10 ∷ 0x00 ∷ 0x1a ∷ []) ++ drop 4 (replicate 108 0 ++ drop 108 response)

-- the bytes that are then at the table's places, where `b` tells whether the phy is ready
placed : (phys : List ℕ) (i : ℕ) (changes : Changes) (response : List ℕ) (b : Bool)
    → cond b
    (take 24 (set (set (fields_in phys i changes (blanks response)) 12 (device_type phys i * 16)) 32 (attached_phy phys i)) ++ tab (phy_byte phys i) 4 8
    ++ drop 32 (set (set (fields_in phys i changes (blanks response)) 12 (device_type phys i * 16)) 32 (attached_phy phys i)))
    (fields_in phys i changes (blanks response))
    ≡ (0x41 ∷ 0x10 ∷ 0x00 ∷ 0x1a ∷ tab (byte_at (plain_fields phys i changes ++ cond b (attached_fields phys i) [])) 4 104) ++ drop 108 response
unfolding fields_in byte_at tab
placed phys i changes response true = refl
placed phys i changes response false = refl

pub describes : (phys : List ℕ) (i : ℕ) (changes : Changes) (response s₁ s₂ s₃ s : List ℕ) → i < phy_count phys
    → s₁ ≡ replicate 108 0 ++ drop 108 response → s₂ ≡ (0x41 ∷ 0x10 ∷ 0x00 ∷ 0x1a ∷ []) ++ drop 4 s₁
    → s₃ ≡ fields_in phys i changes s₂ → s ≡ cond (ready phys i) (attached_in phys i s₃) s₃
    → s ≡ (0x41 ∷ 0x10 ∷ 0x00 ∷ 0x1a ∷ description phys i changes) ++ drop 108 response
unfolding description
describes phys i changes response s₁ s₂ s₃ s h e₁ e₂ e₃ e =
    e
    ∙ ap (λ (l : List ℕ). cond (ready phys i) (attached_in phys i l) l)
    (e₃ ∙ ap (fields_in phys i changes) (e₂ ∙ ap (λ (l : List ℕ). (0x41 ∷ 0x10 ∷ 0x00 ∷ 0x1a ∷ []) ++ drop 4 l) e₁))
    ∙ ap (λ (l : List ℕ). cond (ready phys i)
    (take 24 (set (set (fields_in phys i changes (blanks response)) 12 (device_type phys i * 16)) 32 (attached_phy phys i)) ++ l
    ++ drop 32 (set (set (fields_in phys i changes (blanks response)) 12 (device_type phys i * 16)) 32 (attached_phy phys i)))
    (fields_in phys i changes (blanks response)))
    (run-tab phys (phy_record * i) 4 8 (omega arith))
    ∙ placed phys i changes response (ready phys i)

pub length-description : (phys : List ℕ) (i : ℕ) (changes : Changes) → length (description phys i changes) ≡ 104
unfolding description
length-description phys i changes = length-tab _ 4 104

-- ---- what the rule gives where its checks answer nothing
module _ (w : ℕ) (phys permissions : List ℕ) (phy carried : ℕ) (request : List ℕ) (e : 0 ≡ first_refusal (discover_checks w phys permissions phy carried request)) where
  -- the request has its twelve bytes, and the phy is there
  pub discover_long : 9 < length request
  discover_long = let k = clear (discover_checks w phys permissions phy carried request) 0 e refl tt in omega arith

  pub discover_there : asked_phy request < phy_count phys
  discover_there = let k = clear (discover_checks w phys permissions phy carried request) 0 e refl tt in omega arith

  pub discover_done : (changes : Changes) (response set response₁ set₁ : List ℕ)
      → response₁ ≡ (0x41 ∷ 0x10 ∷ 0x00 ∷ 0x1a ∷ description phys (asked_phy request) changes) ++ drop 108 response
      → set₁ ≡ empty_set ++ drop 16 set
      → Leaves 0x10 (discover_reply w phys permissions phy carried changes request) response set 0x00 108 phys permissions response₁ set₁
  unfolding discover_reply
  discover_done changes response set response₁ set₁ er es =
      let l = length-description phys (asked_phy request) changes in
      leaves_done 0x10 _ _ phys permissions response set 0x00 108 phys permissions response₁ set₁ e
      (record {
        answered = refl;
        counted = omega arith;
        phys_then = refl;
        permissions_then = refl;
        responded = rw l er;
        told = es;
      })

-- ---- a phy that the caller does not reach is answered 16h
pub hidden : (w : ℕ) (phys permissions : List ℕ) (phy carried : ℕ) (changes : Changes) (request : List ℕ) → length request ≡ 12 → length_said request ≡ true
    → (get_or request 8 0 % 2 ≡ 1 → ⊥) → asked_phy request < phy_count phys → reaches_phy w phys permissions phy carried (asked_phy request) ≡ false
    → discover_reply w phys permissions phy carried changes request ≡ turned_down 0x16 phys permissions
unfolding discover_reply
hidden w phys permissions phy carried changes request l s z h r =
    let said : not (length_said request) ≡ false = ap not s in
    let off : not (shown w phys permissions phy carried request) ≡ true = ap not (shown_heeding w phys permissions phy carried request z ∙ r) in
    let first : 0x16 ≡ first_refusal (discover_checks w phys permissions phy carried request) = search rows depth 16 in
    sym (turns_down _ _ phys permissions 0x16 first (λ q. omega arith))
