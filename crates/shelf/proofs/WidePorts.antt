-- Ports: what an incoming broadcast leaves alone, whom of each port it names, and where an OPEN never goes.
-- Assumes nothing.
use mathlib.Core.Path.{◌≡◌, sym, ap, ◌∙◌}
use mathlib.Core.Bool.{false}
use mathlib.Core.List.{List, [], ◌++◌}
use Prim.Native.Nat.{ℕ, ◌+◌, ◌*◌, ◌/◌, ◌%◌, ◌<◌}
use native.Mathlib.Decide.{dec_lt}
use native.Mathlib.Omega.{arith}
use borrow.Author.Tests.{ne_eqb}
use lib.ListN.{length, get_or, set, drop, length-set, get_or-eq_default}
use lib.Seq.{get_or-set_same}
use Rattle.wire.specs.PhySet.{member}
use Rattle.wire.proofs.Sets.{member_front}
use Rattle.tables.specs.Phys.{phy_record, phy_group, phy_byte, ready}
use Rattle.tables.specs.Ports.{same_port}
use Rattle.tables.proofs.PortLaws.{port_unready}
use Rattle.links.specs.Links.{left}
use Rattle.opens.proofs.OpenLaws.{forward_permitted}
use Rattle.told_set.specs.ToldSet.{told, told_set}
use Rattle.broadcasts.specs.Broadcasts.{frame_source}
use Rattle.told_set.proofs.ToldLaws.{told_parts, told_lowest, told_once, port_named, in_set, length-told}
use Rattle.shelf.specs.Calls.{outcome_of}
use Rattle.shelf.specs.Promises.{Relayed, a_primitive, a_frame, ToldPermitted, ToldOnce, EachPortTold, NoReturn, LeavesPort}
use Rattle.shelf.proofs.Answers.{gave, forwarded}

-- the set that either call left has exactly the phys that are told
in_buffer : (w : ℕ) (phys t : List ℕ) (phy source : ℕ) (rest : List ℕ) (i : ℕ) → i < 128 → member (told_set w phys t phy source ++ rest) i ≡ told w phys t phy source i
in_buffer w phys t phy source rest i h = member_front _ rest i (length-told w phys t phy source) h ∙ in_set w phys t phy source i h

pub relayed : (w : ℕ) (phys t : List ℕ) (phy source : ℕ) (set : List ℕ) → Relayed w phys t phy source set → (i : ℕ) → i < 128 → member set i ≡ told w phys t phy source i
unfolding outcome_of
relayed _ _ _ _ _ _ (a_primitive w phys t phy number set frame v bs e) i h =
    ap (λ (b : List (List ℕ)). member (get_or b 0 []) i) (gave _ _ _ _ _ bs e).1 ∙ in_buffer w phys t phy (phy_group phys phy) (drop 16 set) i h
relayed _ _ _ _ _ _ (a_frame w phys t phy arrived set frame v bs e) i h =
    ap (λ (b : List (List ℕ)). member (get_or b 0 []) i) (gave _ _ _ _ _ bs e).1 ∙ in_buffer w phys t phy (frame_source arrived) (drop 16 set) i h

pub told-permitted : ToldPermitted
told-permitted w phys t phy source set r i h e =
    let p = told_parts w phys t phy source i (sym (relayed w phys t phy source set r i h) ∙ e) in (p.0, p.1)

pub once : ToldOnce
once w phys t phy source set r i j hi hj ei ej p =
    told_once w phys t phy source i j (sym (relayed w phys t phy source set r i hi) ∙ ei) (sym (relayed w phys t phy source set r j hj) ∙ ej) p

pub each_port : EachPortTold
each_port w phys t phy source set r i h p o =
    let n = port_named w phys t phy source i p o in
    let b : n.at < 128 = omega (arith, n.low) in
    record {
      at = n.at;
      told = relayed w phys t phy source set r n.at b ∙ n.named;
      port = n.port;
      lowest = λ k pk s. told_lowest w phys t phy source n.at k n.named pk s;
    }

pub no_return : NoReturn
unfolding outcome_of
no_return w phys routes t phy frame buffer q e =
    (forward_permitted w phys routes t phy frame q (forwarded w phys routes t phy frame buffer q e)).3

-- ---- leaving
left_unready : (phys : List ℕ) (phy : ℕ) → ready (left phys phy) phy ≡ false
left_unready phys phy = ne_eqb _ 1 (λ e. odd (dec_lt (phy_record * phy + 2) (length phys)) e)
  where
    odd : Dec (phy_record * phy + 2 < length phys) → phy_byte (left phys phy) phy 2 % 2 ≡ 1 → ⊥
    odd (yes l) e =
        let g : phy_byte (left phys phy) phy 2 ≡ phy_byte phys phy 2 / 2 % 2 * 2 = get_or-set_same phys (phy_record * phy + 2) (phy_byte phys phy 2 / 2 % 2 * 2) 0 l in
        omega arith
    odd (no n) e =
        let s : length (left phys phy) ≡ length phys = length-set phys (phy_record * phy + 2) (phy_byte phys phy 2 / 2 % 2 * 2) in
        let g : phy_byte (left phys phy) phy 2 ≡ 0 = get_or-eq_default (left phys phy) 0 (omega arith) in
        omega arith

pub leaves_port : LeavesPort
unfolding outcome_of
leaves_port w phys t phy v bs e j p =
    let s : get_or bs 0 [] ≡ left phys phy = ap (λ (b : List (List ℕ)). get_or b 0 []) (gave _ _ _ _ _ bs e).1 in
    port_unready (left phys phy) phy j (left_unready phys phy) (ap (λ (x : List ℕ). same_port x phy j) (sym s) ∙ p)
