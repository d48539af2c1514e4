-- Records there and back: the records of a table as described, loaded, give the table; and records that ascend are those of what they load.
-- Assumes nothing.
use mathlib.Core.Path.{◌≡◌, refl, sym, ap, ◌∙◌}
use mathlib.Core.Bool.{Bool, true, false, beq, cond, ◌&&◌, ◌||◌, true≢false}
use mathlib.Core.List.{List, [], ◌∷◌}
use mathlib.Core.Logic.{inl}
use Prim.Native.Nat.{ℕ, suc, ◌-◌, ◌/◌, ◌%◌, ◌≤◌, ◌<◌}
use native.Mathlib.Decide.{ℕ_discrete, dec_lt}
use native.Mathlib.Omega.{arith}
use borrow.Author.Tests.{le-leb, lt-leb, eq-eqb, ne_eqb}
use lib.Dec.{eqb, leb}
use lib.ListN.{length, get_or, get_or-eq_default}
use Rattle.wire.proofs.RunLaws.{every_at, every_all}
use Rattle.permit.specs.Permission.{groups, table_size, P, start_byte, start_table, Width}
use Rattle.permit.specs.History.{names, latest, Says}
use Rattle.permit.proofs.Laws.{table_ext, length-start, get_or-start, mutual_start}
use Rattle.permit.proofs.HistoryLaws.{history, length-apply, bytes_apply}
use Rattle.tables.proofs.ArrivalLaws.{both}
use Rattle.file_pairs.specs.Pairs.{code, pairs_of, orders_of, loaded}
use Rattle.file_pairs.specs.Described.{fair, fair_row, described}
use Rattle.file_pairs.proofs.Records.{Ascending, orders_valid}
use Rattle.files.specs.Promises.{Bytes, Described, HistoryDescribed}
use Rattle.files.proofs.Listed.{has, listed_ext, pairs_ascend, pairs_list}

-- ---- a table that is as described, by the test and by plain facts
beq_true : (x y : Bool) → beq x y ≡ true → x ≡ y
beq_true true true e = refl
beq_true true false e = absurd (true≢false (sym e))
beq_true false true e = absurd (true≢false (sym e))
beq_true false false e = refl

true_beq : (x y : Bool) → x ≡ y → beq x y ≡ true
true_beq x y e = rw e (self y)
  where
    self : (z : Bool) → beq z z ≡ true
    self true = refl
    self false = refl

module _ (w : ℕ) (t : List ℕ) where
  fair_at : described w t ≡ true → (c d : ℕ) → c ≤ d → d < groups w
      → (P w t c d ≡ P w t d c) × ((leb 2 c || beq (P w t c d) (P w (start_table w) c d)) ≡ true)
  unfolding described fair_row fair
  fair_at e c d l h =
      let row = every_at (fair_row w t) 0 (groups w) c (omega arith) (omega arith) e in
      let pair = every_at (fair w t c) c (groups w - c) d l (omega arith) row in
      let p = both (beq (P w t c d) (P w t d c)) (leb 2 c || beq (P w t c d) (P w (start_table w) c d)) pair in
      (beq_true (P w t c d) (P w t d c) p.0, p.1)

  pub described_is : length t ≡ table_size w → described w t ≡ true → Described w t
  described_is s e = record {
    sized = s;
    both_ways = λ c d hc hd. turn c d hc hd (dec_lt d c);
    low = λ c d hc hd. row c d hc hd (dec_lt d c);
  }
    where
      turn : (c d : ℕ) → c < groups w → d < groups w → Dec (d < c) → P w t c d ≡ P w t d c
      turn c d hc hd (yes l) = sym (fair_at e d c (omega arith) hc).0
      turn c d hc hd (no l) = (fair_at e c d (omega arith) hd).0

      first : (c d : ℕ) → c < 2 → c ≤ d → d < groups w → P w t c d ≡ P w (start_table w) c d
      first c d hc l hd =
          let f : (leb 2 c || beq (P w t c d) (P w (start_table w) c d)) ≡ true = (fair_at e c d l hd).1 in
          beq_true (P w t c d) (P w (start_table w) c d) (rw (lt-leb 2 c hc) at f)

      row : (c d : ℕ) → c < 2 → d < groups w → Dec (d < c) → P w t c d ≡ P w (start_table w) c d
      row c d hc hd (yes l) =
          let g : c < groups w = omega arith in
          sym (fair_at e d c (omega arith) g).0 ∙ first d c (omega arith) (omega arith) g ∙ mutual_start w d c hd g
      row c d hc hd (no l) = first c d hc (omega arith) hd

  pub is_described : Described w t → described w t ≡ true
  unfolding described fair_row fair
  is_described h =
      every_all (fair_row w t) 0 (groups w) (λ c l u. every_all (fair w t c) c (groups w - c) (λ d i j. all c d (omega arith) (omega arith)))
    where
      all : (c d : ℕ) → c < groups w → d < groups w → (beq (P w t c d) (P w t d c) && (leb 2 c || beq (P w t c d) (P w (start_table w) c d))) ≡ true
      all c d hc hd = rw (true_beq (P w t c d) (P w t d c) (h.both_ways c d hc hd)) (go (dec_lt c 2))
        where
          go : Dec (c < 2) → (leb 2 c || beq (P w t c d) (P w (start_table w) c d)) ≡ true
          go (yes l) = rw (lt-leb 2 c l) (true_beq (P w t c d) (P w (start_table w) c d) (h.low c d l hd))
          go (no l) = let u : 2 ≤ c = omega arith in rw (le-leb 2 c u)

-- a table that demand 3 describes is one
pub history_described : HistoryDescribed
history_described w t os l s =
    record { sized = l; both_ways = s.both_ways; low = λ c d hc hd. s.low c d (omega arith) hd (inl hc) }

-- ---- what the orders of records say of two groups
names-code : (a b c d : ℕ) → a ≤ b → b < 128 → c ≤ d → d < 128 → names a b c d ≡ eqb (code a b) (code c d)
unfolding names
names-code a b c d ab b8 cd d8 = go (ℕ_discrete c a) (ℕ_discrete d b)
  where
    away : (c ≡ b → d ≡ a → ⊥) → (eqb c b && eqb d a) ≡ false
    away n = other (ℕ_discrete c b) (ℕ_discrete d a)
      where
        other : Dec (c ≡ b) → Dec (d ≡ a) → (eqb c b && eqb d a) ≡ false
        other (yes p) (yes q) = absurd (n p q)
        other (yes p) (no q) = rw (eq-eqb c b p, ne_eqb d a q)
        other (no p) x = rw (ne_eqb c b p)

    go : Dec (c ≡ a) → Dec (d ≡ b) → ((eqb c a && eqb d b) || (eqb c b && eqb d a)) ≡ eqb (code a b) (code c d)
    go (yes p) (yes q) =
        let e : code a b ≡ code c d = omega arith in
        rw (eq-eqb c a p, eq-eqb d b q, eq-eqb (code a b) (code c d) e)
    go (yes p) (no q) =
        let e : code a b ≡ code c d → ⊥ = λ z. q (omega arith) in
        rw (eq-eqb c a p, ne_eqb d b q, ne_eqb (code a b) (code c d) e) (away (λ x y. q (omega arith)))
    go (no p) q =
        let e : code a b ≡ code c d → ⊥ = λ z. p (omega arith) in
        rw (ne_eqb c a p, ne_eqb (code a b) (code c d) e) (away (λ x y. p (omega arith)))

either : (n x h : Bool) → (cond n true x || h) ≡ (x || (n || h))
either true true h = refl
either true false h = refl
either false true h = refl
either false false h = refl

latest-has : (w low : ℕ) (rs : List ℕ) → w ≤ 16 → Ascending w low rs → (c d : ℕ) → c ≤ d → d < groups w → (x : Bool)
    → latest (orders_of rs) c d x ≡ (x || has rs (code c d))
unfolding latest orders_of has
latest-has w low [] m h c d cd hd true = refl
latest-has w low [] m h c d cd hd false = refl
latest-has w low (a ∷ []) m h c d cd hd x = absurd h
latest-has w low (a ∷ b ∷ rs) m h c d cd hd x =
    let k = h.0 in
    let e : names a b c d ≡ eqb (code a b) (code c d) = names-code a b c d k.1 (omega arith) cd (omega arith) in
    latest-has w (suc (code a b)) rs m h.1 c d cd hd (cond (names a b c d) true x)
    ∙ either (names a b c d) x (has rs (code c d))
    ∙ ap (λ (n : Bool). x || (n || has rs (code c d))) e

-- ---- demand 3, of a load: it is start-up and then a switch-on of each listed pair
pub loaded_says : (w : ℕ) (rs : List ℕ) → Ascending w 0 rs → Says w (loaded w rs) (orders_of rs)
unfolding loaded
loaded_says w rs h = history w (orders_of rs) (orders_valid w 0 rs h)

length-loaded : (w : ℕ) (rs : List ℕ) → length (loaded w rs) ≡ table_size w
unfolding loaded
length-loaded w rs = length-apply w (orders_of rs) (start_table w) ∙ length-start w

pub loaded-described : (w : ℕ) (rs : List ℕ) → Ascending w 0 rs → Described w (loaded w rs)
loaded-described w rs h = history_described w (loaded w rs) (orders_of rs) (length-loaded w rs) (loaded_says w rs h)

bytes_start : (w : ℕ) → Bytes (start_table w)
unfolding start_byte
bytes_start w i = go (dec_lt i (table_size w))
  where
    small : (x y : Bool) → cond x 255 (cond y 2 0) < 256
    small true y = omega arith
    small false true = omega arith
    small false false = omega arith

    go : Dec (i < table_size w) → get_or (start_table w) i 0 < 256
    go (yes l) = rw (get_or-start w i l) (small (eqb (i / w) 1) (eqb (i % w) (w - 1)))
    go (no l) = rw (get_or-eq_default (start_table w) 0 {n = i} (omega (arith, length-start w))) (omega arith)

bytes_loaded : (w : ℕ) (rs : List ℕ) → Bytes (loaded w rs)
unfolding loaded
bytes_loaded w rs = bytes_apply w (orders_of rs) (start_table w) (bytes_start w)

module _ (w : ℕ) (wide : Width w) where
  loaded_lists : (rs : List ℕ) → Ascending w 0 rs → (c d : ℕ) → 2 ≤ c → c ≤ d → d < groups w → P w (loaded w rs) c d ≡ has rs (code c d)
  loaded_lists rs h c d hc cd hd =
      (loaded_says w rs h).pairs c d (hc, omega arith) (omega arith, hd) ∙ latest-has w 0 rs wide.most h c d cd hd false

  -- records that ascend are those of what they load
  pub records_of_loaded : (rs : List ℕ) → Ascending w 0 rs → pairs_of w (loaded w rs) ≡ rs
  records_of_loaded rs h =
      listed_ext w wide 0 (pairs_of w (loaded w rs)) rs (pairs_ascend w wide (loaded w rs)) h
      (λ c d hc cd hd. pairs_list w wide (loaded w rs) c d hc cd hd ∙ loaded_lists rs h c d hc cd hd)

  -- the records of a table that is as described, loaded, give the table
  pub loaded_of_records : (t : List ℕ) → Bytes t → Described w t → loaded w (pairs_of w t) ≡ t
  loaded_of_records t b h =
      table_ext w u t (bytes_loaded w (pairs_of w t)) b (λ c d hc hd. same c d hc hd (dec_lt c 2) (dec_lt d 2) (dec_lt d c)) (length-loaded w (pairs_of w t)) h.sized
    where
      u : List ℕ
      u = loaded w (pairs_of w t)

      up : Ascending w 0 (pairs_of w t)
      up = pairs_ascend w wide t

      k : Described w (loaded w (pairs_of w t))
      k = loaded-described w (pairs_of w t) up

      pair : (c d : ℕ) → 2 ≤ c → c ≤ d → d < groups w → P w (loaded w (pairs_of w t)) c d ≡ P w t c d
      pair c d hc cd hd = loaded_lists (pairs_of w t) up c d hc cd hd ∙ pairs_list w wide t c d hc cd hd

      row : (c d : ℕ) → c < 2 → d < groups w → P w (loaded w (pairs_of w t)) c d ≡ P w t c d
      row c d hc hd = k.low c d hc hd ∙ sym (h.low c d hc hd)

      turn : (c d : ℕ) → c < groups w → d < groups w → P w (loaded w (pairs_of w t)) d c ≡ P w t d c → P w (loaded w (pairs_of w t)) c d ≡ P w t c d
      turn c d hc hd e = k.both_ways c d hc hd ∙ e ∙ h.both_ways d c hd hc

      same : (c d : ℕ) → c < groups w → d < groups w → Dec (c < 2) → Dec (d < 2) → Dec (d < c) → P w (loaded w (pairs_of w t)) c d ≡ P w t c d
      same c d hc hd (yes p) q r = row c d p hd
      same c d hc hd (no p) (yes q) r = turn c d hc hd (row d c q hc)
      same c d hc hd (no p) (no q) (yes r) = turn c d hc hd (pair d c (omega arith) (omega arith) hc)
      same c d hc hd (no p) (no q) (no r) = pair c d (omega arith) (omega arith) hd
