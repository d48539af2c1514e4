-- "one phy table that 93h could have written": of a table that is one, 93h, IDENTIFY and a phy's leaving leave one.
-- Assumes nothing.
use mathlib.Core.Path.{◌≡◌, refl, sym, ap, ap₂, ◌∙◌, subst}
use mathlib.Core.Bool.{Bool, true, false, cond, not, ◌||◌}
use mathlib.Core.List.{List, [], ◌∷◌, ◌++◌, append_assoc}
use Prim.Native.Nat.{ℕ, zero, suc, ◌+◌, ◌-◌, ◌*◌, ◌/◌, ◌%◌, ◌≤◌, ◌<◌}
use native.Mathlib.Decide.{ℕ_discrete, dec_lt}
use native.Mathlib.Omega.{arith}
use borrow.Author.Tests.{lt-ltb, ltb-true, not-false}
use lib.Dec.{eqb, ltb}
use lib.ListN.{length, get_or, set, take, drop, length-set}
use lib.Seq.{paste, length-paste, drop-paste, take_at, length-take-le, get_or-take, get_or-drop, get_or-set_other}
use Rattle.wire.specs.Address.{address_at}
use Rattle.permit.specs.Permission.{groups, Width}
use Rattle.tables.specs.Refusals.{refuse, same, first_refusal}
use Rattle.tables.specs.Outcome.{Answer, out, outcome}
use Rattle.tables.specs.Phys.{phy_record, phy_count, phy_byte, zoned}
use Rattle.tables.proofs.RefusalLaws.{clear}
use Rattle.tables.proofs.PhyLaws.{length-zoned}
use Rattle.tables.proofs.ArrivalLaws.{both, own_there}
use Rattle.links.specs.Links.{leaving_checks, left, identify_checks, moved, unzoned, identified}
use Rattle.requests.specs.Requests.{Reply, replied}
use Rattle.phy_zone.specs.PhyZone.{entries, start_phy, first, group, sound, all_sound, phy_zone_checks, configured, phy_zone_reply}
use Rattle.phy_zone.proofs.PhyZoneLaws.{zoned_keeps, zoned-first, zoned-group}
use Rattle.file_phys.specs.Block.{writable}
use Rattle.files.specs.Promises.{Zoned, ZonedKept}
use Rattle.files.proofs.BlockTrips.{same_sized, zoned_from, zoned_at}

-- ---- a table with the same bytes 0 and 1
same_zones_lem : (w : ℕ) (phys phys₁ : List ℕ) → length phys ≡ length phys₁ → ((i k : ℕ) → k < 2 → phy_byte phys₁ i k ≡ phy_byte phys i k)
    → Zoned w phys → Zoned w phys₁
same_zones_lem w phys phys₁ l e z =
    zoned_from w phys₁ (same_sized phys phys₁ l z.sized)
    (λ i h. ap₂ (writable w) (e i 0 (omega arith)) (e i 1 (omega arith)) ∙ zoned_at w phys z i (subst (λ (n : ℕ). i < n / phy_record) (sym l) h))

-- ---- two bytes that 93h takes are written as such
module _ (w : ℕ) (wide : Width w) where
  taken : (x y : ℕ) → sound w x y ≡ true → writable w (x % 32) (y % 128) ≡ true
  unfolding writable sound
  taken x y e =
      let p = both (ltb y (groups w)) (not (eqb (x / 16 % 2) 1) || eqb y 1) e in
      let l : y < groups w = ltb-true y (groups w) p.0 in
      let g = wide.most in
      let a : x % 32 / 16 % 2 ≡ x / 16 % 2 = omega arith in
      let b : y % 128 ≡ y = omega arith in
      let c : x % 32 < 32 = omega arith in
      rw (a, b, lt-ltb (x % 32) 32 c) e

  one_more : (phys : List ℕ) (i x y : ℕ) → sound w x y ≡ true → Zoned w phys → Zoned w (zoned phys i x y)
  one_more phys i x y e z =
      zoned_from w (zoned phys i x y) (same_sized phys (zoned phys i x y) (sym (length-zoned phys i x y)) z.sized) (λ j l. go j l (ℕ_discrete j i))
    where
      there : (j : ℕ) → j < phy_count (zoned phys i x y) → j < phy_count phys
      there j l = subst (λ (n : ℕ). j < n / phy_record) (length-zoned phys i x y) l

      go : (j : ℕ) → j < phy_count (zoned phys i x y) → Dec (j ≡ i) → writable w (phy_byte (zoned phys i x y) j 0) (phy_byte (zoned phys i x y) j 1) ≡ true
      go j l (yes q) =
          ap₂ (writable w)
          (ap (λ (k : ℕ). phy_byte (zoned phys k x y) j 0) (sym q) ∙ zoned-first phys j x y (there j l))
          (ap (λ (k : ℕ). phy_byte (zoned phys k x y) j 1) (sym q) ∙ zoned-group phys j x y (there j l))
          ∙ taken x y e
      go j l (no q) =
          ap₂ (writable w) (zoned_keeps phys i x y j 0 (omega arith) (λ z. absurd (q z))) (zoned_keeps phys i x y j 1 (omega arith) (λ z. absurd (q z)))
          ∙ zoned_at w phys z j (there j l)

  -- ---- 93h: its descriptors are all sound
  configured-zoned : (phys request : List ℕ) (start i n : ℕ) → all_sound w request i n ≡ true → Zoned w phys → Zoned w (configured phys request start i n)
  unfolding configured all_sound
  configured-zoned phys request start i zero e z = z
  configured-zoned phys request start i (suc n) e z =
      let p = both (sound w (first request i) (group request i)) (all_sound w request (suc i) n) e in
      configured-zoned (zoned phys (start + i) (first request i) (group request i)) request start (suc i) n p.1
      (one_more phys (start + i) (first request i) (group request i) p.0 z)

  replied-zoned : (n : ℕ) (accepted : Reply) (phys permissions : List ℕ) → (n ≡ 0 → Zoned w accepted.phys) → Zoned w phys
      → Zoned w (replied n accepted phys permissions).phys
  unfolding replied
  replied-zoned zero accepted phys permissions h z = h refl
  replied-zoned (suc n) accepted phys permissions h z = z

  reply_zoned : (phys permissions request : List ℕ) (phy carried : ℕ) → Zoned w phys → Zoned w (phy_zone_reply w phys permissions phy carried request).phys
  unfolding phy_zone_reply
  reply_zoned phys permissions request phy carried z =
      replied-zoned (first_refusal (phy_zone_checks w phys permissions phy carried request)) _ phys permissions
      (λ e.
      let k = clear (phy_zone_checks w phys permissions phy carried request) 0 (sym e) refl tt in
      configured-zoned phys request (start_phy request) 0 (entries request) (not-false (all_sound w request 0 (entries request)) k.1.1.1.1.1.0) z)
      z

  -- ---- leaving writes byte 2
  left-zoned : (phys : List ℕ) (phy : ℕ) → Zoned w phys → Zoned w (left phys phy)
  left-zoned phys phy z =
      same_zones_lem w phys (left phys phy) (sym (length-set phys (phy_record * phy + 2) (phy_byte phys phy 2 / 2 % 2 * 2)))
      (λ i k h. get_or-set_other phys (phy_record * phy + 2) (phy_record * i + k) (phy_byte phys phy 2 / 2 % 2 * 2) 0 (λ q. omega arith)) z

  -- ---- IDENTIFY writes two zeros, where the disk is another, and bytes from 2 on
  unzoned-zoned : (phys : List ℕ) (phy : ℕ) (address : List ℕ) → Zoned w phys → Zoned w (unzoned phys phy address)
  unfolding sound
  unzoned-zoned phys phy address z = go (moved phys phy address)
    where
      nought : sound w 0 0 ≡ true
      nought = let s = wide.some in let l : 0 < groups w = omega arith in rw (lt-ltb 0 (groups w) l)

      go : (b : Bool) → Zoned w (cond b (zoned phys phy 0 0) phys)
      go true = one_more phys phy 0 0 nought z
      go false = z

-- a copy is not seen outside of its place
paste_keeps : (d s : List ℕ) (at n k : ℕ) → at + n ≤ length d → n ≤ length s → Dec (k < at) → (k < at + n → k < at) → get_or (paste d at s n) k 0 ≡ get_or d k 0
paste_keeps d s at n k hd hs (yes l) h =
    sym (get_or-take at (paste d at s n) k 0 l)
    ∙ ap (λ (x : List ℕ). get_or x k 0)
    (ap (take at) (append_assoc (take at d) (take n s) (drop (at + n) d)) ∙ take_at (take at d) (take n s ++ drop (at + n) d) at (length-take-le at d (omega arith)))
    ∙ get_or-take at d k 0 l
paste_keeps d s at n k hd hs (no l) h = go (dec_lt k (at + n))
  where
    go : Dec (k < at + n) → get_or (paste d at s n) k 0 ≡ get_or d k 0
    go (yes q) = absurd (l (h q))
    go (no q) =
        let e : at + n + (k - (at + n)) ≡ k = omega arith in
        subst (λ (m : ℕ). get_or (paste d at s n) m 0 ≡ get_or d m 0) e
        (sym (get_or-drop (at + n) (paste d at s n) (k - (at + n)) 0)
        ∙ ap (λ (x : List ℕ). get_or x (k - (at + n)) 0) (drop-paste d at s n (omega arith) hs)
        ∙ get_or-drop (at + n) d (k - (at + n)) 0)

identified-zoned : (w : ℕ) (phys address : List ℕ) (phy device attached : ℕ) → Width w → length address ≡ 8 → phy < phy_count phys → Zoned w phys
    → Zoned w (identified phys phy address device attached)
unfolding identified
identified-zoned w phys address phy device attached wide h l z =
    same_zones_lem w u (paste d at address 8) (sym (length-paste d at address 8 room (omega arith) ∙ three)) (λ i k q. byte i k q) (unzoned-zoned w wide phys phy address z)
  where
    at : ℕ
    at = phy_record * phy + 4

    u : List ℕ
    u = unzoned phys phy address

    d : List ℕ
    d = set (set (set u (phy_record * phy + 2) 3) (phy_record * phy + 12) (device % 8)) (phy_record * phy + 13) attached

    as_long : length u ≡ length phys
    as_long = go (moved phys phy address)
      where
        go : (b : Bool) → length (cond b (zoned phys phy 0 0) phys) ≡ length phys
        go true = length-zoned phys phy 0 0
        go false = refl

    three : length d ≡ length u
    three =
        length-set (set (set u (phy_record * phy + 2) 3) (phy_record * phy + 12) (device % 8)) (phy_record * phy + 13) attached
        ∙ length-set (set u (phy_record * phy + 2) 3) (phy_record * phy + 12) (device % 8)
        ∙ length-set u (phy_record * phy + 2) 3

    room : at + 8 ≤ length d
    room = omega (arith, three, as_long)

    byte : (i k : ℕ) → k < 2 → phy_byte (paste d at address 8) i k ≡ phy_byte u i k
    byte i k q =
        paste_keeps d address at 8 (phy_record * i + k) room (omega arith) (dec_lt (phy_record * i + k) at) (λ x. omega arith)
        ∙ get_or-set_other (set (set u (phy_record * phy + 2) 3) (phy_record * phy + 12) (device % 8)) (phy_record * phy + 13) (phy_record * i + k) attached 0 (λ x. omega arith)
        ∙ get_or-set_other (set u (phy_record * phy + 2) 3) (phy_record * phy + 12) (phy_record * i + k) (device % 8) 0 (λ x. omega arith)
        ∙ get_or-set_other u (phy_record * phy + 2) (phy_record * i + k) 3 0 (λ x. omega arith)

-- ---- whatever is answered
left_by : (w n : ℕ) (values old new new₁ : List ℕ) (a : Answer) → outcome n values (old ∷ []) (new ∷ []) ≡ out a (new₁ ∷ [])
    → (n ≡ 0 → Zoned w new) → Zoned w old → Zoned w new₁
unfolding outcome
left_by w zero values old new new₁ a e h z = let p : new ≡ new₁ = cc in subst (Zoned w) p (h refl)
left_by w (suc n) values old new new₁ a e h z = let p : old ≡ new₁ = cc in subst (Zoned w) p z

pub zoned-kept : ZonedKept
zoned-kept = (
  λ w phys permissions request phy carried wide z. reply_zoned w wide phys permissions request phy carried z,
  λ w phys address phys₁ phy device attached a wide h z e.
      left_by w (first_refusal (identify_checks phys phy address)) [] phys (identified phys phy address device attached) phys₁ a e
      (λ q. identified-zoned w phys address phy device attached wide h
      (own_there phys phy true true false (refuse 5 (same (address_at address 0) 0) ∷ []) 0 (sym q) refl) z)
      z,
  λ w phys phys₁ phy a wide z e. left_by w (first_refusal (leaving_checks phys phy)) [] phys (left phys phy) phys₁ a e (λ q. left-zoned w wide phys phy z) z,
)
