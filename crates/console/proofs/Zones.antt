-- Phy zones that the console built: what `smp` answers a caller with the right.
-- Assumes nothing.
use mathlib.Core.Path.{◌≡◌, refl, sym, ap, ap₂, ◌∙◌}
use mathlib.Core.Bool.{Bool, true, false, cond, not, ◌&&◌}
use mathlib.Core.List.{List, [], ◌++◌}
use Prim.Native.Nat.{ℕ, zero, suc, ◌+◌, ◌*◌, ◌/◌, ◌%◌, ◌≤◌, ◌<◌}
use native.Mathlib.Nat.{zero-add}
use native.Mathlib.Decide.{dec_lt}
use native.Mathlib.Omega.{arith}
use borrow.Author.Tests.{lt-ltb, le-ltb, le-leb, eq-eqb, not-false}
use lib.Dec.{ltb}
use lib.ListN.{length, get_or}
use lib.Seq.{get_or-append-add}
use Rattle.wire.specs.Bits.{num, tab}
use Rattle.wire.proofs.BitLaws.{num_le, eqb_num}
use Rattle.wire.proofs.Loops.{get_or-tab}
use Rattle.permit.specs.Orders.{apply}
use Rattle.tables.specs.Refusals.{first_refusal}
use Rattle.tables.specs.Phys.{phy_count, phy_record, phy_byte, participating, phy_priority, phy_group, zoned}
use Rattle.tables.proofs.RefusalLaws.{clear}
use Rattle.requests.specs.Requests.{right}
use Rattle.phy_zone.specs.PhyZone.{sound, all_sound, phy_zone_checks, configured, phy_zone_reply}
use Rattle.phy_zone.specs.PhyZone as zone
use Rattle.phy_zone.proofs.PhyZoneLaws.{configured-holds}
use Rattle.discover.specs.declared.Changes.{Changes}
use Rattle.rules.specs.Rules.{smp_reply}
use Rattle.rules.proofs.RuleLaws.{is_93}
use Rattle.console_orders.specs.Building.{eight}
use Rattle.wire.specs.Runs.{every}
use Rattle.console_zones.specs.Zones.{entry_count, takes_part, priority_at, group_at, small, fair, barred, phy_zones_checks, entry_byte, described, phy_zones_request}
use Rattle.console_zones.proofs.ZoneLaws.{small_at, zones_length}
use Rattle.console.specs.Asks.{zones, held, chosen_zones, result_named, named}
use Rattle.console.specs.Promises.{SameZones}

-- the bytes behind a head
behind_at : (head : List ℕ) (f : ℕ → ℕ) (n at i : ℕ) → length head ≡ at → i < n → get_or (head ++ tab f 0 n) (at + i) 0 ≡ f i
behind_at head f n at i l h =
    ap (λ (m : ℕ). get_or (head ++ tab f 0 n) (m + i) 0) (sym l)
    ∙ get_or-append-add head (tab f 0 n) i 0
    ∙ get_or-tab f 0 n i h
    ∙ ap f (zero-add i)

module _ (start : ℕ) (es : List ℕ) (whole : length es % 3 ≡ 0) (h : length es ≤ 384) (hs : start ≤ 127)
    (sm : not (every (small es) 0 (entry_count es)) ≡ false) where
  abbrev R : List ℕ
  R = phy_zones_request start es

  abbrev K : ℕ
  K = entry_count es

  zones_1 : get_or R 1 0 ≡ 0x93
  unfolding phy_zones_request
  zones_1 = refl

  zones_3 : get_or R 3 0 ≡ 1 + described K / 4
  unfolding phy_zones_request
  zones_3 = refl

  zones_6 : get_or R 6 0 ≡ start
  unfolding phy_zones_request
  zones_6 = refl

  zones_7 : get_or R 7 0 ≡ K
  unfolding phy_zones_request
  zones_7 = refl

  zones_byte : (i : ℕ) → i < described K → get_or R (8 + i) 0 ≡ entry_byte es i
  unfolding phy_zones_request
  zones_byte i l = behind_at (eight 0x93 (1 + described K / 4) start K) (entry_byte es) (described K) 8 i refl l

  byte_even : (i : ℕ) → entry_byte es (2 * i) ≡ 16 * num (takes_part es i) + priority_at es i
  unfolding entry_byte
  byte_even i = let e : 2 * i % 2 ≡ 0 = omega arith in let d : 2 * i / 2 ≡ i = omega arith in rw (e, d)

  byte_odd : (i : ℕ) → entry_byte es (2 * i + 1) ≡ group_at es i
  unfolding entry_byte
  byte_odd i = let e : (2 * i + 1) % 2 ≡ 1 = omega arith in let d : (2 * i + 1) / 2 ≡ i = omega arith in rw (e, d)

  zones_first : (i : ℕ) → i < K → zone.first R i ≡ 16 * num (takes_part es i) + priority_at es i
  zones_first i l = zones_byte (2 * i) (omega arith) ∙ byte_even i

  zones_group : (i : ℕ) → i < K → zone.group R i ≡ group_at es i
  zones_group i l =
      let e : 8 + 2 * i + 1 ≡ 8 + (2 * i + 1) = omega arith in
      ap (λ (m : ℕ). get_or R m 0) e ∙ zones_byte (2 * i + 1) (omega arith) ∙ byte_odd i

  -- a descriptor is sound where the table holds its group and it is fair
  zones_sound : (w i : ℕ) → i < K → sound w (zone.first R i) (zone.group R i) ≡ (held w es i && fair es i)
  unfolding sound fair
  zones_sound w i l =
      let s = small_at es i sm l in
      let d : (16 * num (takes_part es i) + priority_at es i) / 16 % 2 ≡ num (takes_part es i) = omega (arith, num_le (takes_part es i), s.0) in
      rw (zones_first i l, zones_group i l, d, eqb_num (takes_part es i))

  shuffle : (a b c d : Bool) → ((a && b) && (c && d)) ≡ ((a && c) && (b && d))
  shuffle true true c d = refl
  shuffle true false true d = refl
  shuffle true false false d = refl
  shuffle false b c d = refl

  zones_all : (w i n : ℕ) → i + n ≤ K → all_sound w R i n ≡ (every (held w es) i n && every (fair es) i n)
  unfolding all_sound every
  zones_all w i zero l = refl
  zones_all w i (suc n) l =
      ap₂ (λ (a b : Bool). a && b) (zones_sound w i (omega arith)) (zones_all w (suc i) n (omega arith))
      ∙ shuffle (held w es i) (fair es i) (every (held w es) (suc i) n) (every (fair es) (suc i) n)

  pub zones_configured : (phys : List ℕ) (i n : ℕ) → i + n ≤ K → configured phys R start i n ≡ chosen_zones phys start es i n
  unfolding configured chosen_zones
  zones_configured phys i zero l = refl
  zones_configured phys i (suc n) l =
      rw (zones_first i (omega arith), zones_group i (omega arith))
      (zones_configured (zoned phys (start + i) (16 * num (takes_part es i) + priority_at es i) (group_at es i)) (suc i) n (omega arith))

  pub zones_answer : (w : ℕ) (phys permissions : List ℕ) (phy carried : ℕ) → right w phys permissions phy carried ≡ true
      → first_refusal (phy_zone_checks w phys permissions phy carried R)
      ≡ cond (ltb (phy_count phys) (start + K)) 0x10 (cond (not (every (held w es) 0 K && every (fair es) 0 K)) 2 0)
  unfolding first_refusal
  zones_answer w phys permissions phy carried r =
      let l = zones_length start es [] in
      let a : 8 ≤ length R = omega (arith, l) in
      let b : length R ≡ 4 + 4 * get_or R 3 0 = omega (arith, l, zones_3) in
      let c : length R ≡ 8 + 2 * get_or R 7 0 + 2 * (get_or R 7 0 % 2) = omega (arith, l, zones_7) in
      let m : start % 128 ≡ start = omega arith in
      rw (
        r,
        le-ltb (length R) 8 a,
        eq-eqb (length R) (4 + 4 * get_or R 3 0) b,
        eq-eqb (length R) (8 + 2 * get_or R 7 0 + 2 * (get_or R 7 0 % 2)) c,
        zones_6,
        zones_7,
        m,
        zones_all w 0 K (omega arith),
      )

  -- document 01's table holds every group that is not refused
  pub held_16 : (i n : ℕ) → i + n ≤ K → every (held 16 es) i n ≡ true
  unfolding every
  held_16 i zero l = refl
  held_16 i (suc n) l = rw (lt-ltb (group_at es i) 128 (small_at es i sm (omega arith)).1, held_16 (suc i) n (omega arith))

  half : (x : Bool) → ◌≡◌ {A = ℕ} (cond (not (x && true)) 2 0) (cond x 0 2)
  half true = refl
  half false = refl

  -- where it is not barred, every entry is fair wherever the shelf has the phys
  pub zones_result : (w : ℕ) (phys permissions : List ℕ) (phy carried : ℕ) → right w phys permissions phy carried ≡ true → length phys ≤ 128 * phy_record
      → barred start es ≡ false
      → first_refusal (phy_zone_checks w phys permissions phy carried R) ≡ result_named w (phy_count phys) (zones start es)
  unfolding result_named barred
  zones_result w phys permissions phy carried r lp nb = zones_answer w phys permissions phy carried r ∙ go (dec_lt (phy_count phys) (start + K))
    where
      go : Dec (phy_count phys < start + K)
          → ◌≡◌ {A = ℕ} (cond (ltb (phy_count phys) (start + K)) 0x10 (cond (not (every (held w es) 0 K && every (fair es) 0 K)) 2 0))
          (cond (ltb (phy_count phys) (start + K)) 0x10 (cond (every (held w es) 0 K) 0 2))
      go (yes l) = rw (lt-ltb (phy_count phys) (start + K) l)
      go (no l) =
          let u : start + K ≤ phy_count phys = omega arith in
          let b : start + K ≤ 128 = omega arith in
          let q : not (every (fair es) 0 K) ≡ false = rw (le-leb (start + K) 128 b) at nb in
          rw (le-ltb (phy_count phys) (start + K) u, not-false (every (fair es) 0 K) q) (half (every (held w es) 0 K))

  pub zones_said : (w : ℕ) (phys permissions : List ℕ) (phy carried : ℕ) (changes : Changes) → right w phys permissions phy carried ≡ true
      → length phys ≤ 128 * phy_record → barred start es ≡ false
      → smp_reply w phys permissions phy carried changes R ≡ named w (zones start es) phys permissions
  unfolding phy_zone_reply named apply
  zones_said w phys permissions phy carried changes r lp nb =
      let m : start % 128 ≡ start = omega arith in
      is_93 w phys permissions phy carried changes R zones_1
      ∙ rw (zones_result w phys permissions phy carried r lp nb, zones_6, zones_7, m, zones_configured phys 0 K (omega arith))

  -- each phy has what its entry says
  pub zones_named_lem : (phys : List ℕ) (d : ℕ) → d < K → start + d < phy_count phys
      → (participating (chosen_zones phys start es 0 K) (start + d) ≡ takes_part es d)
      × (phy_priority (chosen_zones phys start es 0 K) (start + d) ≡ priority_at es d)
      × (phy_group (chosen_zones phys start es 0 K) (start + d) ≡ group_at es d)
  zones_named_lem phys d l t =
      let s = small_at es d sm l in
      let c = configured-holds phys R start 0 K d (omega arith) (omega arith) t in
      says (configured phys R start 0 K) (chosen_zones phys start es 0 K) (start + d)
      (takes_part es d) (priority_at es d) (group_at es d) _ _ (zones_configured phys 0 K (omega arith)) c.0 c.1 (zones_first d l) (zones_group d l) s.0 s.1
    where
      says : (t u : List ℕ) (i : ℕ) (v : Bool) (p g b0 b1 : ℕ) → t ≡ u → phy_byte t i 0 ≡ b0 % 32 → phy_byte t i 1 ≡ b1 % 128
          → b0 ≡ 16 * num v + p → b1 ≡ g → p < 16 → g < 128
          → (participating u i ≡ v) × (phy_priority u i ≡ p) × (phy_group u i ≡ g)
      says t u i v p g b0 b1 e h0 h1 e0 e1 lp lg =
          let x : phy_byte u i 0 ≡ 16 * num v + p = ap (λ (s : List ℕ). phy_byte s i 0) (sym e) ∙ h0 ∙ omega (arith, num_le v) in
          let y : phy_byte u i 1 ≡ g = ap (λ (s : List ℕ). phy_byte s i 1) (sym e) ∙ h1 ∙ omega arith in
          let d : phy_byte u i 0 / 16 % 2 ≡ num v = omega (arith, num_le v) in
          (rw d (eqb_num v), omega arith, omega arith)

pub same_zones_lem : SameZones
same_zones_lem start es given z phys i l t =
    let c = clear (phy_zones_checks given start es) 0 (sym z) refl tt in
    zones_named_lem start es c.1.1.0 c.1.0 c.1.1.1.0 c.1.1.1.1.0 phys i l t
