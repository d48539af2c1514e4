-- A batch row written by bytes, and its column by bits, are the row's orders, for any row width up to a request row's sixteen bytes.
-- Assumes nothing.
use mathlib.Core.Path.{◌≡◌, refl, sym, ap, ◌∙◌, subst}
use mathlib.Core.Bool.{Bool, true, false, cond, ◌&&◌}
use mathlib.Core.List.{List}
use Prim.Native.Nat.{ℕ, zero, suc, ◌+◌, ◌-◌, ◌*◌, ◌/◌, ◌%◌, ◌^◌, ◌≤◌, ◌<◌}
use native.Mathlib.Decide.{dec_lt, ℕ_discrete}
use native.Mathlib.Omega.{arith}
use borrow.Author.Tests.{eq-eqb, ne_eqb, lt-ltb, le-ltb, le-leb, lt-leb}
use lib.Dec.{eqb, leb, ltb}
use lib.ListN.{length, drop, get_or, set, length-set, length-drop}
use lib.Arith.{digits_lt}
use lib.Seq.{paste, length-paste, get_or-set_same, get_or-set_other, get_or-drop}
use Rattle.wire.specs.Bits.{bit}
use Rattle.wire.proofs.BitLaws.{each8}
use Rattle.permit.specs.Permission.{groups, table_size, place, P, set_P}
use Rattle.permit.specs.Orders.{Order, apply, row_orders}
use Rattle.permit.specs.History.{latest}
use Rattle.permit.specs.Masks.{Masked}
use Rattle.batches.specs.Rows.{RowIs, ColumnIs, ColumnTo, byte_has}
use Rattle.permit.proofs.Laws.{set_masked, P-set, length-set_P, Bytes, table_ext}
use Rattle.permit.proofs.HistoryLaws.{Within, P-apply, length-apply, bytes_apply, latest_swap}
use Rattle.permit.proofs.BatchLaws.{row_hit, row_past, row_away}
use Rattle.wire.proofs.Copies.{paste_new, paste_below, paste_above}

-- ---- the row and the column together
within_row : (w : ℕ) (f : ℕ → Bool) (r j n : ℕ) → r < groups w → j + n ≤ groups w → Within w (row_orders f r j n)
unfolding row_orders
within_row w f r j zero hr h = tt
within_row w f r j (suc n) hr h = ((hr, omega arith), within_row w f r (suc j) n hr (omega arith))

-- what the row's orders say of any pair
row_latest : (w : ℕ) (f : ℕ → Bool) (r c d : ℕ) (x : Bool) → c < groups w → d < groups w
    → cond (eqb d r && leb 2 c) (f c) (cond (eqb c r && leb 2 d) (f d) x) ≡ latest (row_orders f r 2 (groups w - 2)) c d x
row_latest w f r c d x hc hd = go (ℕ_discrete c r) (ℕ_discrete d r) (dec_lt c 2) (dec_lt d 2)
  where
    row : ℕ → ℕ → Bool
    row a b = latest (row_orders f r 2 (groups w - 2)) a b x

    hit : (b : ℕ) → b < groups w → (b < 2 → ⊥) → row r b ≡ f b
    hit b h l = row_hit f r 2 (groups w - 2) b x (omega arith) (omega arith)

    past : (b : ℕ) → b < 2 → row r b ≡ x
    past b h = row_past f r 2 (groups w - 2) b x h

    go : Dec (c ≡ r) → Dec (d ≡ r) → Dec (c < 2) → Dec (d < 2)
        → cond (eqb d r && leb 2 c) (f c) (cond (eqb c r && leb 2 d) (f d) x) ≡ row c d
    go (yes p) (yes q) (yes l) m = rw (eq-eqb c r p, eq-eqb d r q, lt-leb 2 c l, lt-leb 2 d (omega arith), p) (sym (past d (omega arith)))
    go (yes p) (yes q) (no l) m = rw (eq-eqb d r q, le-leb 2 c (omega arith)) (ap f (p ∙ sym q) ∙ sym (hit d hd (λ h. omega arith)) ∙ ap (λ (a : ℕ). row a d) (sym p))
    go (yes p) (no q) l (yes m) = rw (ne_eqb d r q, eq-eqb c r p, lt-leb 2 d m, p) (sym (past d m))
    go (yes p) (no q) l (no m) = rw (ne_eqb d r q, eq-eqb c r p, le-leb 2 d (omega arith), p) (sym (hit d hd m))
    go (no p) (yes q) (yes l) m =
        rw (ne_eqb c r p, eq-eqb d r q, lt-leb 2 c l) (sym (latest_swap (row_orders f r 2 (groups w - 2)) c d x ∙ ap (λ (a : ℕ). row a c) q ∙ past c l))
    go (no p) (yes q) (no l) m =
        rw (eq-eqb d r q, le-leb 2 c (omega arith)) (sym (latest_swap (row_orders f r 2 (groups w - 2)) c d x ∙ ap (λ (a : ℕ). row a c) q ∙ hit c hc l))
    go (no p) (no q) l m = rw (ne_eqb c r p, ne_eqb d r q) (sym (row_away f r 2 (groups w - 2) c d x p q))

pub row_written : (w : ℕ) (f : ℕ → Bool) (r : ℕ) (t u v : List ℕ) → length t ≡ table_size w → r < groups w → Bytes t → Bytes v
    → RowIs w f r t u → ColumnIs w f r u v → v ≡ apply w (row_orders f r 2 (groups w - 2)) t
row_written w f r t u v hl hr bt bv row column =
    table_ext w v (apply w os t) bv (bytes_apply w os t bt)
    (λ c d hc hd. column.says c d hc hd
    ∙ ap (λ (x : Bool). cond (eqb d r && leb 2 c) (f c) x) (row.says c d hc hd)
    ∙ row_latest w f r c d (P w t c d) hc hd
    ∙ sym (P-apply w os (within_row w f r 2 (groups w - 2) hr (omega arith)) t hl c d hd))
    (column.sized ∙ row.sized ∙ hl)
    (length-apply w os t ∙ hl)
  where
    os : List Order
    os = row_orders f r 2 (groups w - 2)

-- ---- the row's bytes
-- the last byte's two low bits are kept
joined_bit : (y z k : ℕ) → k < 8 → bit (y / 4 * 4 + z % 4) k ≡ cond (leb 2 k) (bit y k) (bit z k)
unfolding bit
joined_bit y z =
    each8 (λ (k : ℕ). (y / 4 * 4 + z % 4) / 2 ^ k % 2 ≡ cond (leb 2 k) (y / 2 ^ k % 2) (z / 2 ^ k % 2))
    (omega arith)
    (omega arith)
    (omega arith)
    (omega arith)
    (omega arith)
    (omega arith)
    (omega arith)
    (omega arith)

module _ (w : ℕ) (t rows : List ℕ) (i r from : ℕ) (narrow : w ≤ 16) (hl : length t ≡ table_size w) (hr : r < groups w)
    (hs : 16 * i + 16 ≤ length rows) (hf : from + w ≡ 16 * i + 16) where
  copied : List ℕ
  copied = paste t (r * w) (drop from rows) (w - 1)

  last_lt : r * w + (w - 1) < length t
  last_lt = rw hl (digits_lt hr (omega arith))

  source : w - 1 ≤ length (drop from rows)
  source = omega (arith, length-drop from rows)

  room : r * w + (w - 1) ≤ length t
  room = omega (arith, last_lt)

  -- a byte of another row
  apart : (x c d : ℕ) → (c ≡ r → ⊥) → get_or (set copied (r * w + (w - 1)) x) (place w c d) 0 ≡ get_or t (place w c d) 0
  unfolding place copied
  apart x c d ne = go (dec_lt c r)
    where
      go : Dec (c < r) → get_or (set copied (r * w + (w - 1)) x) (c * w + (w - 1 - d / 8)) 0 ≡ get_or t (c * w + (w - 1 - d / 8)) 0
      go (yes h) =
          let k : w - 1 - d / 8 < w = omega arith in
          let l = digits_lt h k in
          get_or-set_other copied (r * w + (w - 1)) (c * w + (w - 1 - d / 8)) x 0 (λ e. omega arith)
          ∙ paste_below t (r * w) (drop from rows) (w - 1) room source (c * w + (w - 1 - d / 8)) l
      go (no h) =
          let g : r < c = omega arith in
          let k : w - 1 < w = omega arith in
          let l = digits_lt g k in
          get_or-set_other copied (r * w + (w - 1)) (c * w + (w - 1 - d / 8)) x 0 (λ e. omega arith)
          ∙ paste_above t (r * w) (drop from rows) (w - 1) room source (c * w + (w - 1 - d / 8)) (omega arith)

  -- a byte of the row, but its last
  copied_byte : (x d : ℕ) → d < groups w → 8 ≤ d → get_or (set copied (r * w + (w - 1)) x) (place w r d) 0 ≡ get_or rows (place 16 i d) 0
  unfolding place copied
  copied_byte x d hd h =
      let e : from + (w - 1 - d / 8) ≡ i * 16 + (16 - 1 - d / 8) = omega arith in
      get_or-set_other copied (r * w + (w - 1)) (r * w + (w - 1 - d / 8)) x 0 (λ q. omega arith)
      ∙ paste_new t (r * w) (drop from rows) (w - 1) room source (w - 1 - d / 8) (omega arith)
      ∙ get_or-drop from rows (w - 1 - d / 8) 0
      ∙ ap (λ (m : ℕ). get_or rows m 0) e

  -- its last, which holds groups 0 to 7
  last_place : (d : ℕ) → d < 8 → place w r d ≡ r * w + (w - 1)
  unfolding place
  last_place d h = let e : w - 1 - d / 8 ≡ w - 1 = omega arith in ap (λ (m : ℕ). r * w + m) e

  last_source : (d : ℕ) → d < 8 → place 16 i d ≡ from + (w - 1)
  unfolding place
  last_source d h = omega arith

  last_bit : (d : ℕ) → d < 8
      → eqb (bit (get_or rows (from + (w - 1)) 0 / 4 * 4 + get_or copied (r * w + (w - 1)) 0 % 4) d) 1 ≡ cond (leb 2 d) (P 16 rows i d) (P w t r d)
  unfolding P copied
  last_bit d h =
      let m : d % 8 ≡ d = omega arith in
      ap (λ (x : ℕ). eqb x 1) (joined_bit (get_or rows (from + (w - 1)) 0) (get_or copied (r * w + (w - 1)) 0) d h)
      ∙ rw (last_place d h, last_source d h, m, paste_above t (r * w) (drop from rows) (w - 1) room source (r * w + (w - 1)) (omega arith)) (go (leb 2 d) _ _)
    where
      go : (b : Bool) (y z : ℕ) → eqb (cond b y z) 1 ≡ cond b (eqb y 1) (eqb z 1)
      go true y z = refl
      go false y z = refl

  pub row_put : (u : List ℕ) (to x : ℕ) → to ≡ r * w → u ≡ paste t to (drop from rows) (w - 1)
      → x ≡ get_or rows (from + (w - 1)) 0 / 4 * 4 + get_or u (to + (w - 1)) 0 % 4 → RowIs w (P 16 rows i) r t (set u (to + (w - 1)) x)
  unfolding P copied
  row_put u to x et eu ex = rw (ex, eu, et) done
    where
      new : ℕ
      new = get_or rows (from + (w - 1)) 0 / 4 * 4 + get_or copied (r * w + (w - 1)) 0 % 4

      same : length copied ≡ length t
      same = length-paste t (r * w) (drop from rows) (w - 1) room source

      go : (c d : ℕ) → c < groups w → d < groups w → Dec (c ≡ r) → Dec (d < 8)
          → eqb (bit (get_or (set copied (r * w + (w - 1)) new) (place w c d) 0) (d % 8)) 1
          ≡ cond (eqb c r && leb 2 d) (eqb (bit (get_or rows (place 16 i d) 0) (d % 8)) 1) (eqb (bit (get_or t (place w c d) 0) (d % 8)) 1)
      go c d hc hd (no n) l = rw (ne_eqb c r n, apart new c d n)
      go c d hc hd (yes e) (no l) = rw (eq-eqb c r e, le-leb 2 d (omega arith), e, copied_byte new d hd (omega arith))
      go c d hc hd (yes e) (yes l) =
          let m : d % 8 ≡ d = omega arith in
          rw (eq-eqb c r e, e)
          (ap (λ (p : ℕ). eqb (bit (get_or (set copied (r * w + (w - 1)) new) p 0) (d % 8)) 1) (last_place d l)
          ∙ ap (λ (b : ℕ). eqb (bit b (d % 8)) 1) (get_or-set_same copied (r * w + (w - 1)) new 0 (rw same last_lt))
          ∙ ap (λ (k : ℕ). eqb (bit new k) 1) m
          ∙ last_bit d l)

      done : RowIs w (P 16 rows i) r t (set copied (r * w + (w - 1)) new)
      done = record {
        sized = length-set copied (r * w + (w - 1)) new ∙ same;
        says = λ c d hc hd. go c d hc hd (ℕ_discrete c r) (dec_lt d 8);
      }

-- ---- the loops that write the column
module _ (w : ℕ) (f : ℕ → Bool) (r lo : ℕ) where
  pub column_start : (t : List ℕ) → length t ≡ table_size w → lo ≤ groups w → ColumnTo w f r lo t t lo
  column_start t l h = record {
    from = omega arith;
    up_to = h;
    whole = l;
    sized = refl;
    says = λ c d hc hd. none c (dec_lt c lo) (eqb d r) (f c) (P w t c d);
  }
    where
      none : (c : ℕ) → Dec (c < lo) → (p y x : Bool) → x ≡ cond (p && (leb lo c && ltb c lo)) y x
      none c (yes l) true y x = rw (lt-leb lo c l)
      none c (no l) true y x = rw (le-leb lo c (omega arith), le-ltb c lo (omega arith))
      none c l false y x = refl

  pub column_again : (t u : List ℕ) (j i m x : ℕ) (v : Bool) → j < groups w → r < groups w → v ≡ f j → i ≡ place w j r → m ≡ 2 ^ (r % 8)
      → Masked (get_or u i 0) m v x → ColumnTo w f r lo t u j → ColumnTo w f r lo t (set u i x) (j + 1)
  column_again t u j i m x v hj hr e ei em ex s = rw (set_masked w u j r i m x v ei em ex) again
    where
      more : (c d : ℕ) (z : Bool) → cond (eqb c j && eqb d r) v (cond (eqb d r && (leb lo c && ltb c j)) (f c) z) ≡ cond (eqb d r && (leb lo c && ltb c (j + 1))) (f c) z
      more c d z = go (ℕ_discrete c j) (ℕ_discrete d r) (dec_lt c j)
        where
          go : Dec (c ≡ j) → Dec (d ≡ r) → Dec (c < j)
              → cond (eqb c j && eqb d r) v (cond (eqb d r && (leb lo c && ltb c j)) (f c) z) ≡ cond (eqb d r && (leb lo c && ltb c (j + 1))) (f c) z
          go (yes p) (yes q) l = rw (eq-eqb c j p, eq-eqb d r q, le-leb lo c (omega (arith, s.from)), lt-ltb c (j + 1) (omega arith), p) e
          go (no p) (yes q) (yes l) = rw (ne_eqb c j p, eq-eqb d r q, lt-ltb c j l, lt-ltb c (j + 1) (omega arith))
          go (no p) (yes q) (no l) = rw (ne_eqb c j p, eq-eqb d r q, le-ltb c j (omega arith), le-ltb c (j + 1) (omega arith))
          go (yes p) (no q) l = rw (eq-eqb c j p, ne_eqb d r q)
          go (no p) (no q) l = rw (ne_eqb c j p, ne_eqb d r q)

      again : ColumnTo w f r lo t (set_P w u j r v) (j + 1)
      again = record {
        from = omega (arith, s.from);
        up_to = omega arith;
        whole = length-set_P w u j r v ∙ s.whole;
        sized = length-set_P w u j r v ∙ s.sized;
        says = λ c d hc hd.
            P-set w u j r c d v s.whole hj hr hd
            ∙ ap (λ (z : Bool). cond (eqb c j && eqb d r) v z) (s.says c d hc hd)
            ∙ more c d (P w t c d);
      }

  -- two parts, one after the other; the second may go by another g that says the same there
  pub column_join : (g : ℕ → Bool) (t u v : List ℕ) (mid hi : ℕ) → ColumnTo w f r lo t u mid → ColumnTo w g r mid u v hi
      → ((c : ℕ) → mid ≤ c → c < hi → g c ≡ f c) → ColumnTo w f r lo t v hi
  column_join g t u v mid hi s n e = record {
    from = omega (arith, s.from, n.from);
    up_to = n.up_to;
    whole = n.whole;
    sized = n.sized ∙ s.sized;
    says = λ c d hc hd.
        n.says c d hc hd
        ∙ ap (λ (z : Bool). cond (eqb d r && (leb mid c && ltb c hi)) (g c) z) (s.says c d hc hd)
        ∙ both c (eqb d r) (P w t c d) (dec_lt c lo) (dec_lt c mid) (dec_lt c hi);
  }
    where
      both : (c : ℕ) (p z : Bool) → Dec (c < lo) → Dec (c < mid) → Dec (c < hi)
          → cond (p && (leb mid c && ltb c hi)) (g c) (cond (p && (leb lo c && ltb c mid)) (f c) z) ≡ cond (p && (leb lo c && ltb c hi)) (f c) z
      both c false z a b h = refl
      both c true z (yes a) b h = rw (lt-leb lo c a, lt-leb mid c (omega (arith, s.from)))
      both c true z (no a) (yes b) h = rw (le-leb lo c (omega arith), lt-leb mid c b, lt-ltb c mid b, lt-ltb c hi (omega (arith, n.from)))
      both c true z (no a) (no b) (yes h) = rw (le-leb lo c (omega arith), le-leb mid c (omega arith), lt-ltb c hi h) (e c (omega arith) h)
      both c true z (no a) (no b) (no h) = rw (le-ltb c hi (omega arith), le-ltb c mid (omega arith), le-leb lo c (omega arith), le-leb mid c (omega arith))

pub column_done : (w : ℕ) (f : ℕ → Bool) (r : ℕ) (t u : List ℕ) (j : ℕ) → groups w ≤ j → ColumnTo w f r 2 t u j → ColumnIs w f r t u
column_done w f r t u j h s = record {
  sized = s.sized;
  says = λ c d hc hd. s.says c d hc hd ∙ rw (lt-ltb c j (omega arith)) (all (eqb d r) (leb 2 c) (f c) (P w t c d));
}
  where
    all : (p q y x : Bool) → cond (p && (q && true)) y x ≡ cond (p && q) y x
    all true true y x = refl
    all true false y x = refl
    all false q y x = refl

-- ---- a byte of the row for eight groups at a time
module _ (w : ℕ) (bits first low r : ℕ) where
  pub bits_again : (t u : List ℕ) (k i m x : ℕ) (v : Bool) → first + 8 ≤ groups w → first % 8 ≡ 0 → k < 8 → r < groups w
      → v ≡ eqb (bit bits k) 1 → i ≡ place w (first + k) r → m ≡ 2 ^ (r % 8) → Masked (get_or u i 0) m v x
      → ColumnTo w (byte_has bits) r (first + low) t u (first + k) → ColumnTo w (byte_has bits) r (first + low) t (set u i x) (first + (k + 1))
  unfolding byte_has
  bits_again t u k i m x v hf ha hk hr e ei em ex s =
      let q : k ≡ (first + k) % 8 = omega arith in
      let n : first + k + 1 ≡ first + (k + 1) = omega arith in
      subst (λ (j : ℕ). ColumnTo w (byte_has bits) r (first + low) t (set u i x) j) n
      (column_again w (byte_has bits) r (first + low) t u (first + k) i m x v (omega arith) hr (e ∙ ap (λ (j : ℕ). eqb (bit bits j) 1) q) ei em ex s)

-- row i's byte of eight groups says of them what the row says
byte_row : (rows : List ℕ) (i q c : ℕ) → 8 * q ≤ c → c < 8 * q + 8 → byte_has (get_or rows (i * 16 + (15 - q)) 0) c ≡ P 16 rows i c
unfolding byte_has P place
byte_row rows i q c l h =
    let e : q ≡ c / 8 = omega arith in
    ap (λ (j : ℕ). eqb (bit (get_or rows (i * 16 + (15 - j)) 0) (c % 8)) 1) e

module _ (w : ℕ) (rows : List ℕ) (i r : ℕ) where
  pub bytes_start : (f : ℕ → Bool) (lo : ℕ) (t u : List ℕ) → ColumnTo w f r lo t u 8 → ColumnTo w (P 16 rows i) r 8 u u 8
  bytes_start f lo t u s = column_start w (P 16 rows i) r 8 u s.whole s.up_to

  pub bytes_again : (t u v : List ℕ) (q : ℕ) → ColumnTo w (P 16 rows i) r 8 t u (q * 8)
      → ColumnTo w (byte_has (get_or rows (i * 16 + (15 - q)) 0)) r (q * 8 + 0) u v (q * 8 + 8) → ColumnTo w (P 16 rows i) r 8 t v ((q + 1) * 8)
  bytes_again t u v q s n =
      let z : q * 8 + 0 ≡ q * 8 = omega arith in
      let e : q * 8 + 8 ≡ (q + 1) * 8 = omega arith in
      subst (λ (j : ℕ). ColumnTo w (P 16 rows i) r 8 t v j) e
      (column_join w (P 16 rows i) r 8 (byte_has (get_or rows (i * 16 + (15 - q)) 0)) t u v (q * 8) (q * 8 + 8) s
      (subst (λ (j : ℕ). ColumnTo w (byte_has (get_or rows (i * 16 + (15 - q)) 0)) r j u v (q * 8 + 8)) z n)
      (λ c l h. byte_row rows i q c (omega arith) (omega arith)))

  pub bytes_done : (t u v : List ℕ) (q : ℕ) → length t ≡ table_size w → w ≤ q
      → ColumnTo w (byte_has (get_or rows (i * 16 + 15) 0)) r 2 t u 8 → ColumnTo w (P 16 rows i) r 8 u v (q * 8)
      → ColumnIs w (P 16 rows i) r t v
  bytes_done t u v q hl h first rest =
      column_done w (P 16 rows i) r t v (q * 8) (omega arith)
      (column_join w (P 16 rows i) r 2 (P 16 rows i) t u v 8 (q * 8)
      (column_join w (P 16 rows i) r 2 (byte_has (get_or rows (i * 16 + 15) 0)) t t u 2 8
      (column_start w (P 16 rows i) r 2 t hl (omega (arith, first.up_to)))
      first
      (λ c l k. byte_row rows i 0 c (omega arith) k))
      rest
      (λ c l k. refl))
