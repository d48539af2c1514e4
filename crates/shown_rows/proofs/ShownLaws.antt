-- The rows of a report: what its bytes are, for groups that the table holds and for others, and that the code writes them.
-- Assumes nothing.
use mathlib.Core.Path.{◌≡◌, refl, sym, ap, ◌∙◌}
use mathlib.Core.Bool.{Bool, true, false, cond, ◌&&◌, ◌||◌}
use mathlib.Core.List.{List, ◌++◌}
use Prim.Native.Nat.{ℕ, ◌+◌, ◌-◌, ◌*◌, ◌/◌, ◌%◌, min, ◌≤◌, ◌<◌}
use native.Mathlib.Decide.{dec_lt}
use native.Mathlib.Omega.{arith}
use borrow.Author.Tests.{eq-eqb, ne_eqb, lt-ltb, le-ltb, lt-leb, le-leb}
use lib.Dec.{eqb, leb, ltb}
use lib.ListN.{length, take, drop, get_or, set, length-take, length-drop}
use lib.Seq.{paste, length-paste, get_or-take, get_or-drop, ext_get_or, take_all}
use Rattle.wire.specs.Bits.{bit, tab}
use Rattle.wire.specs.PhySet.{set_byte}
use Rattle.wire.proofs.BitLaws.{eqb_num}
use Rattle.wire.proofs.Sets.{bits_lt, bit_bits}
use Rattle.wire.proofs.Loops.{length-tab, get_or-tab}
use Rattle.wire.proofs.Copies.{paste_new, paste_below, paste_above}
use Rattle.permit.specs.Permission.{groups, table_size, place, P, reaches, start_byte, start_table, Table}
use Rattle.shown_rows.specs.ShownRows.{shown_byte, shown_rows}
use Rattle.permit.specs.Start.{Between}
use Rattle.shown_rows.specs.Inner.{start_rows, shown, Started}
use Rattle.permit.proofs.BitOps.{bits_ext, bit_ext}
use Rattle.permit.proofs.Laws.{row_ends, P-start, get_or-start, Bytes}
use Rattle.permit.proofs.StartLaws.{between_start, between_again, between_join, between_in, between_below, between_above}
use Rattle.permit.proofs.ReachLaws.{reach_in, reach_row, reach_group}

-- ---- a report's bytes
-- a byte is what its bits say
pub byte_is : (f : ℕ → Bool) (q x : ℕ) → x < 256 → ((k : ℕ) → k < 8 → eqb (bit x k) 1 ≡ f (8 * q + k)) → x ≡ set_byte f q
unfolding set_byte
byte_is f q x h e =
    bits_ext 8 x (set_byte f q) h (bits_lt f (8 * q) 8)
    (λ k hk. bit_ext x (set_byte f q) k (e k hk ∙ sym (ap (λ (m : ℕ). eqb m 1) (bit_bits f (8 * q) 8 k hk) ∙ eqb_num (f (8 * q + k)))))

-- bit k of byte i of a table of w bytes a row is that of group d in row a
seat : (w : ℕ) (t : List ℕ) (a d i k : ℕ) → place w a d ≡ i → d % 8 ≡ k → eqb (bit (get_or t i 0) k) 1 ≡ P w t a d
unfolding P
seat w t a d i k ei ek = rw (ei, ek)

-- start-up's byte i says of its eight groups what start-up says
start_bits : (i k : ℕ) → i < 2048 → k < 8 → eqb (bit (start_byte 16 i) k) 1 ≡ (eqb (i / 16) 1 || eqb (8 * (15 - i % 16) + k) 1)
unfolding place
start_bits i k hi hk =
    ap (λ (x : ℕ). eqb (bit x k) 1) (sym (get_or-start 16 i hi))
    ∙ seat 16 (start_table 16) (i / 16) (8 * (15 - i % 16) + k) i k (omega arith) (omega arith)
    ∙ P-start 16 (i / 16) (8 * (15 - i % 16) + k) (omega arith) (omega arith)

start_lt : (i : ℕ) → start_byte 16 i < 256
unfolding start_byte
start_lt i = go (eqb (i / 16) 1) (eqb (i % 16) 15)
  where
    go : (x y : Bool) → cond x 255 (cond y 2 0) < 256
    go true y = omega arith
    go false true = omega arith
    go false false = omega arith

module _ (w : ℕ) (t : List ℕ) (i : ℕ) where
  -- a row that the table does not hold
  pub shown_row : (x : ℕ) → i < 2048 → groups w ≤ i / 16 → x ≡ start_byte 16 i → x ≡ shown_byte w t i
  unfolding shown_byte
  shown_row x hi h e =
      e ∙ byte_is (reaches w t (i / 16)) (15 - i % 16) (start_byte 16 i) (start_lt i)
      (λ k hk. reach_row w t (i / 16) (8 * (15 - i % 16) + k) _ h (start_bits i k hi hk))

  -- eight groups that it does not hold
  pub shown-groups : (x : ℕ) → i < 2048 → w ≤ 16 → i % 16 < 16 - w → x ≡ start_byte 16 i → x ≡ shown_byte w t i
  unfolding shown_byte
  shown-groups x hi hw h e =
      e ∙ byte_is (reaches w t (i / 16)) (15 - i % 16) (start_byte 16 i) (start_lt i)
      (λ k hk. reach_group w t (i / 16) (8 * (15 - i % 16) + k) _ (omega arith) (start_bits i k hi hk))

  -- a byte of the table's own
  pub shown_own : (to : ℕ) → Bytes t → to ≡ i / 16 * w → w ≤ 16 → i / 16 < groups w → 16 - w ≤ i % 16
      → get_or t (to + (i % 16 - (16 - w))) 0 ≡ shown_byte w t i
  unfolding shown_byte place
  shown_own to small et hw hr hb =
      byte_is (reaches w t (i / 16)) (15 - i % 16) (get_or t (to + (i % 16 - (16 - w))) 0) (small (to + (i % 16 - (16 - w))))
      (λ k hk. reach_in w t (i / 16) (8 * (15 - i % 16) + k) _ hr (omega arith)
      (seat w t (i / 16) (8 * (15 - i % 16) + k) (to + (i % 16 - (16 - w))) k (omega arith) (omega arith)))

pub length-shown : (w : ℕ) (t : List ℕ) (start count : ℕ) → length (shown_rows w t start count) ≡ 16 * count
unfolding shown_rows
length-shown w t start count = length-tab (shown_byte w t) (16 * start) (16 * count)

-- ---- start-up's rows, and then the table's own over them
-- of one row: all on for group 1, else group 1 alone
row_one : (row at i : ℕ) → row ≡ 1 → at ≤ i → i < at + 16 → 255 ≡ start_rows row at i
unfolding start_byte
row_one row at i e l h = let q : (16 * row + (i - at)) / 16 ≡ 1 = omega arith in rw (eq-eqb _ 1 q)

row_other : (row at i : ℕ) → (row ≡ 1 → ⊥) → at ≤ i → i < at + 15 → 0 ≡ start_rows row at i
unfolding start_byte
row_other row at i n l h =
    let q : (16 * row + (i - at)) / 16 ≡ 1 → ⊥ = λ z. n (omega arith) in
    let m : (16 * row + (i - at)) % 16 ≡ 15 → ⊥ = λ z. omega arith in
    rw (ne_eqb _ 1 q, ne_eqb _ 15 m)

row_last : (row at : ℕ) → (row ≡ 1 → ⊥) → 2 ≡ start_rows row at (at + 15)
unfolding start_byte
row_last row at n =
    let q : (16 * row + (at + 15 - at)) / 16 ≡ 1 → ⊥ = λ z. n (omega arith) in
    let m : (16 * row + (at + 15 - at)) % 16 ≡ 15 = omega arith in
    rw (ne_eqb _ 1 q, eq-eqb _ 15 m)

module _ (row at : ℕ) (d : List ℕ) (room : at + 16 ≤ length d) where
  pub row_filled : (u : List ℕ) → row ≡ 1 → Between (λ _. 255) at d u (at + 16) → Between (start_rows row at) at d u (at + 16)
  row_filled u e s =
      between_join (start_rows row at) (λ _. 255) at at (at + 16) d d u (between_start (start_rows row at) at d (omega arith)) s
      (λ i l h. row_one row at i e l h)

  pub row_ended : (u : List ℕ) → (row ≡ 1 → ⊥) → Between (λ _. 0) at d u (at + 15) → Between (start_rows row at) at d (set u (at + 15) 2) (at + 16)
  row_ended u n s =
      let q : at + 15 + 1 ≡ at + 16 = omega arith in
      rw (← q)
      (between_again (start_rows row at) at d u (at + 15) 2 (omega arith) (row_last row at n)
      (between_join (start_rows row at) (λ _. 0) at at (at + 15) d d u (between_start (start_rows row at) at d (omega arith)) s
      (λ i l h. row_other row at i n l h)))

-- row k of the n that the table holds
module _ (w : ℕ) (t : List ℕ) (start n : ℕ) (d₀ : List ℕ) (bytes : Bytes t) (table : Table w t) (held : n ≤ groups w - start) (st : Started start n d₀) where
  module _ (d : List ℕ) (k from : ℕ) (s : Between (shown w t start) 12 d₀ d (12 + 16 * k)) (hk : k < n) (ef : from ≡ (start + k) * w) where
    at : ℕ
    at = 12 + 16 * k + (16 - w)

    room : at + w ≤ length d
    unfolding at
    room = omega (arith, s.sized, st.room, table.most)

    source : w ≤ length (drop from t)
    source = omega (arith, length-drop from t, table.sized, row_ends w (start + k) (omega (arith, table.some)) (omega arith))

    -- before the row's last w bytes: an earlier row, or of this row what start-up left
    before : (i : ℕ) → i < length d₀ → i < at → Dec (i < 12 + 16 * k) → Dec (i < 12)
        → get_or d i 0 ≡ cond (leb 12 i && ltb i (12 + 16 * (k + 1))) (shown w t start i) (get_or d₀ i 0)
    unfolding at
    before i hi l a (yes c) = between_below (shown w t start) 12 d₀ d (12 + 16 * k) i s c ∙ rw (lt-leb 12 i c)
    before i hi l (yes a) (no c) =
        between_in (shown w t start) 12 d₀ d (12 + 16 * k) i s (omega arith) a
        ∙ rw (le-leb 12 i (omega arith), lt-ltb i (12 + 16 * (k + 1)) (omega arith))
    before i hi l (no a) (no c) =
        between_above (shown w t start) 12 d₀ d (12 + 16 * k) i s hi (omega arith)
        ∙ shown-groups w t (16 * start + (i - 12)) (get_or d₀ i 0) (omega (arith, table.most)) table.most (omega (arith, table.most))
        (st.says i (omega arith) (omega (arith, table.some)))
        ∙ rw (le-leb 12 i (omega arith), lt-ltb i (12 + 16 * (k + 1)) (omega (arith, table.some)))

    -- the row's last w bytes
    own : (i : ℕ) → at ≤ i → i < 12 + 16 * (k + 1) → get_or (drop from t) (i - at) 0 ≡ shown w t start i
    unfolding at
    own i l h =
        let q : (16 * start + (i - 12)) / 16 ≡ start + k = omega (arith, table.most) in
        let m : from + (i - (12 + 16 * k + (16 - w))) ≡ from + ((16 * start + (i - 12)) % 16 - (16 - w)) = omega (arith, table.most) in
        get_or-drop from t (i - (12 + 16 * k + (16 - w))) 0
        ∙ ap (λ (x : ℕ). get_or t x 0) m
        ∙ shown_own w t (16 * start + (i - 12)) from bytes (ef ∙ ap (λ (x : ℕ). x * w) (sym q)) table.most (omega arith) (omega (arith, table.most))

    byte : (i : ℕ) → i < length d₀ → Dec (i < at) → Dec (i < 12 + 16 * (k + 1))
        → get_or (paste d at (drop from t) w) i 0 ≡ cond (leb 12 i && ltb i (12 + 16 * (k + 1))) (shown w t start i) (get_or d₀ i 0)
    unfolding at
    byte i hi (yes a) b = paste_below d at (drop from t) w room source i a ∙ before i hi a (dec_lt i (12 + 16 * k)) (dec_lt i 12)
    byte i hi (no a) (yes b) =
        let e : i ≡ at + (i - at) = omega arith in
        ap (λ (x : ℕ). get_or (paste d at (drop from t) w) x 0) e
        ∙ paste_new d at (drop from t) w room source (i - at) (omega (arith, table.most))
        ∙ own i (omega arith) b
        ∙ rw (le-leb 12 i (omega arith), lt-ltb i (12 + 16 * (k + 1)) b)
    byte i hi (no a) (no b) =
        paste_above d at (drop from t) w room source i (omega (arith, table.most))
        ∙ between_above (shown w t start) 12 d₀ d (12 + 16 * k) i s hi (omega arith)
        ∙ rw (le-leb 12 i (omega arith), le-ltb i (12 + 16 * (k + 1)) (omega arith))

    pub own_again : (u : List ℕ) → u ≡ paste d (12 + 16 * k + (16 - w)) (drop from t) w → Between (shown w t start) 12 d₀ u (12 + 16 * (k + 1))
    unfolding at
    own_again u eu = record {
      from = omega arith;
      up_to = omega (arith, st.room);
      sized = ap length eu ∙ length-paste d at (drop from t) w room source ∙ s.sized;
      says = λ i hi. ap (λ (l : List ℕ). get_or l i 0) eu ∙ byte i hi (dec_lt i at) (dec_lt i (12 + 16 * (k + 1)));
    }

-- both together: what the report shows, of rows that the table holds and of the others
pub report-shown : (w : ℕ) (t d u v : List ℕ) (start n h : ℕ) → start + n ≤ 128 → h ≡ min n (groups w - start)
    → Between (start_rows start 12) 12 d u (12 + 16 * n) → Between (shown w t start) 12 u v (12 + 16 * h)
    → v ≡ paste d 12 (shown_rows w t start n) (16 * n)
unfolding shown_rows
report-shown w t d u v start n h l eh s o =
    ext_get_or 0 v _ (o.sized ∙ s.sized ∙ sym (length-paste d 12 (shown_rows w t start n) (16 * n) room source))
    (λ i hi. byte i (omega (arith, o.sized, s.sized)) (dec_lt i 12) (dec_lt i (12 + 16 * h)) (dec_lt i (12 + 16 * n)))
  where
    room : 12 + 16 * n ≤ length d
    room = omega (arith, s.up_to)

    source : 16 * n ≤ length (shown_rows w t start n)
    source = omega (arith, length-shown w t start n)

    -- what is pasted
    new : (i : ℕ) → 12 ≤ i → i < 12 + 16 * n → get_or (paste d 12 (shown_rows w t start n) (16 * n)) i 0 ≡ shown w t start i
    new i lo hi =
        let e : i ≡ 12 + (i - 12) = omega arith in
        ap (λ (x : ℕ). get_or (paste d 12 (shown_rows w t start n) (16 * n)) x 0) e
        ∙ paste_new d 12 (shown_rows w t start n) (16 * n) room source (i - 12) (omega arith)
        ∙ get_or-tab (shown_byte w t) (16 * start) (16 * n) (i - 12) (omega arith)

    byte : (i : ℕ) → i < length d → Dec (i < 12) → Dec (i < 12 + 16 * h) → Dec (i < 12 + 16 * n)
        → get_or v i 0 ≡ get_or (paste d 12 (shown_rows w t start n) (16 * n)) i 0
    byte i hi (yes a) b c =
        between_below (shown w t start) 12 u v (12 + 16 * h) i o a
        ∙ between_below (start_rows start 12) 12 d u (12 + 16 * n) i s a
        ∙ sym (paste_below d 12 (shown_rows w t start n) (16 * n) room source i a)
    byte i hi (no a) (yes b) c =
        between_in (shown w t start) 12 u v (12 + 16 * h) i o (omega arith) b ∙ sym (new i (omega arith) (omega arith))
    byte i hi (no a) (no b) (yes c) =
        between_above (shown w t start) 12 u v (12 + 16 * h) i o (omega (arith, s.sized)) (omega arith)
        ∙ between_in (start_rows start 12) 12 d u (12 + 16 * n) i s (omega arith) c
        ∙ shown_row w t (16 * start + (i - 12)) _ (omega arith) (omega arith) refl
        ∙ sym (new i (omega arith) c)
    byte i hi (no a) (no b) (no c) =
        between_above (shown w t start) 12 u v (12 + 16 * h) i o (omega (arith, s.sized)) (omega arith)
        ∙ between_above (start_rows start 12) 12 d u (12 + 16 * n) i s hi (omega arith)
        ∙ sym (paste_above d 12 (shown_rows w t start n) (16 * n) room source i (omega arith))

-- ---- document 01's rows are shown by a copy
pub shown_copy : (t : List ℕ) (first n : ℕ) → Bytes t → length t ≡ table_size 16 → first + n ≤ 2048 → take n (drop first t) ≡ tab (shown_byte 16 t) first n
shown_copy t first n bytes hl h =
    ext_get_or 0 (take n (drop first t)) (tab (shown_byte 16 t) first n) (long ∙ sym (length-tab (shown_byte 16 t) first n))
    (λ k hk. byte k (omega (arith, long)))
  where
    long : length (take n (drop first t)) ≡ n
    long = simp (length-take, length-drop) (omega arith)

    byte : (k : ℕ) → k < n → get_or (take n (drop first t)) k 0 ≡ get_or (tab (shown_byte 16 t) first n) k 0
    byte k hk =
        let e : (first + k) / 16 * 16 + ((first + k) % 16 - (16 - 16)) ≡ first + k = omega arith in
        get_or-take n (drop first t) k 0 hk
        ∙ get_or-drop first t k 0
        ∙ ap (λ (m : ℕ). get_or t m 0) (sym e)
        ∙ shown_own 16 t (first + k) ((first + k) / 16 * 16) bytes refl (omega arith) (omega arith) (omega arith)
        ∙ sym (get_or-tab (shown_byte 16 t) first n k hk)

pub full : (w : ℕ) (t : List ℕ) → Table w t → w ≡ 16 → length t ≡ 2048
full w t h e = h.sized ∙ ap (λ (v : ℕ). table_size v) e

pub report_copied : (w : ℕ) (t d u : List ℕ) (start count : ℕ) → Bytes t → Table w t → w ≡ 16 → start + count ≤ 128
    → u ≡ paste d 12 (drop (16 * start) t) (16 * count) → u ≡ paste d 12 (shown_rows w t start count) (16 * count)
unfolding shown_rows
report_copied w t d u start count bytes h e l p =
    rw e
    (p ∙ ap (λ (s : List ℕ). take 12 d ++ s ++ drop (12 + 16 * count) d)
    (shown_copy t (16 * start) (16 * count) bytes (full w t h e) (omega arith)
    ∙ sym (take_all (16 * count) (tab (shown_byte 16 t) (16 * start) (16 * count)) (omega (arith, length-tab (shown_byte 16 t) (16 * start) (16 * count))))))
