-- Import: one line of the code is one line of the definition, and the loop carries out the accepted orders in turn.
-- Assumes nothing.
use mathlib.Core.Path.{◌≡◌, refl, sym, ap, ap₂, ◌∙◌}
use mathlib.Core.Bool.{Bool, true}
use mathlib.Core.List.{List, [], ◌∷◌, ◌++◌, append-nil, append_assoc}
use Prim.Native.Nat.{ℕ, zero, suc, ◌+◌, ◌-◌, ◌≤◌, ◌<◌}
use native.Mathlib.Decide.{dec_lt}
use native.Mathlib.Omega.{arith}
use borrow.Author.Tests.{leb-true, lt-ltb, le-ltb, le-leb, lt-leb}
use lib.Dec.{ltb, leb}
use lib.ListN.{length, drop, length-append}
use Rattle.std.proofs.Common.{Option, Some, None, Result, Ok}
use Rattle.std.specs.Prelude.{IsErrAnd, ⊤}
use Rattle.std.proofs.lemmas.Result.{err_from_is_err_and}
use Rattle.wire.specs.declared.ZoneGroup.{ZoneGroup}
use Rattle.wire.proofs.GroupLaws.{taken_none}
use Rattle.permit.specs.Permission.{groups, permissions_sized, set_both, Width, Table, Whole}
use Rattle.permit.specs.Orders.{Order, order, apply}
use Rattle.permit.proofs.Laws.{table_sized, length-set_both}
use Rattle.permit.proofs.HistoryLaws.{apply-append}
use Rattle.tables.specs.Refusals.{refuse, off, first_refusal}
use Rattle.tables.specs.Outcome.{answer, out, outcome}
use Rattle.tables.specs.Phys.{phy_count}
use Rattle.tables.proofs.RefusalLaws.{clear, front, back}
use Rattle.tables.proofs.ArrivalLaws.{never, arrival_clear}
use Rattle.tables.proofs.OutcomeLaws.{gives}
use Rattle.requests.specs.Requests.{smp_source, source_reaches}
use Rattle.sheet_lines.specs.Line.{sheet_most, Line, line, bad, line_of}
use Rattle.sheet_lines.specs.Places.{capped, LineAt}
use Rattle.sheet_lines.proofs.LineLaws.{text_at, text_out}
use Rattle.imports.specs.Import.{import_checks, group_checks, order_checks, Done, done, unless_stopped, obeyed, import_lines, imports, done_orders, done_values, imported_as}
use Rattle.imports.specs.Steps.{Goes, Stops, ObeyedAs, Leaves}
use Rattle.imports.specs.Causes.{number, caused}
use Rattle.imports.specs.declared.cause.Cause.{Cause}
use Rattle.imports.specs.declared.cause.Cause.TheVariants.{BadText, NoSuchGroup, NoRight}
use Rattle.imports.specs.declared.Imported.{Imported}
use Rattle.imports.specs.declared.Imported.TheVariants.{Stopped, Whole as WholeOf}

-- ---- a number that stands for a larger one is out of range as that one is
low_capped : (x a : ℕ) → x ≡ capped a → ltb x 2 ≡ ltb a 2
low_capped x a e = go (dec_lt a 2)
  where
    go : Dec (a < 2) → ltb x 2 ≡ ltb a 2
    go (yes h) = lt-ltb x 2 (omega arith) ∙ sym (lt-ltb a 2 h)
    go (no n) = le-ltb x 2 (omega arith) ∙ sym (le-ltb a 2 (omega arith))

high_capped : (w x a : ℕ) → w ≤ 16 → x ≡ capped a → leb (groups w) x ≡ leb (groups w) a
high_capped w x a h e = go (dec_lt a (groups w))
  where
    go : Dec (a < groups w) → leb (groups w) x ≡ leb (groups w) a
    go (yes l) = lt-leb (groups w) x (omega arith) ∙ sym (lt-leb (groups w) a l)
    go (no n) = le-leb (groups w) x (omega arith) ∙ sym (le-leb (groups w) a (omega arith))

number_above : (e : Cause) → number e ≡ 0 → ⊥
number_above BadText h = omega arith
number_above NoSuchGroup h = omega arith
number_above NoRight h = omega arith

module _ (w : ℕ) (source : Option ZoneGroup) where
  -- so the two give one cause
  cause_capped : (t : List ℕ) (x y a b : ℕ) → w ≤ 16 → (x ≡ capped a) × (y ≡ capped b)
      → first_refusal (order_checks w source t x y) ≡ first_refusal (order_checks w source t a b)
  unfolding first_refusal
  cause_capped t x y a b h e =
      rw (low_capped x a e.0, high_capped w x a h e.0, low_capped y b e.1, high_capped w y b h e.1)

  -- ---- why an order is not carried out: the cause e that its groups give, which a `?` hands on in r
  pub cause_front : (t : List ℕ) (a b : ℕ) (r : Result ⊤ Cause) (e : Cause) → IsErrAnd r (λ y. y ≡ e) → number e ≡ first_refusal (group_checks w a b)
      → caused r ≡ first_refusal (order_checks w source t a b)
  cause_front t a b r e h q =
      let p = err_from_is_err_and r h in
      rw (p.1, p.2) (front (group_checks w a b) _ (number e) q (number_above e))

  -- past them the right decides
  pub cause_back : (t : List ℕ) (a b n : ℕ) → 0 ≡ first_refusal (group_checks w a b)
      → n ≡ first_refusal (refuse 3 (off (source_reaches w t source 2)) ∷ []) → n ≡ first_refusal (order_checks w source t a b)
  cause_back t a b n e en = back (group_checks w a b) _ 0 n tt e refl en

  -- ---- one line
  module _ (s : List ℕ) (at : ℕ) (t : List ℕ) where
    -- text that is no line stops the import with cause 1
    pub line_stops : line_of (drop at s) ≡ bad → Stops w source s at t t 1
    unfolding obeyed
    line_stops b = record { obeys = λ behind. ap (λ (l : Line). obeyed w source t l behind) b; caused = omega arith; kept = refl }

    module _ (x y : ℕ) (v : Bool) (next : ℕ) (read : LineAt s at x y v next) (cause : ℕ)
        (ec : cause ≡ first_refusal (order_checks w source t x y)) (k : Table w t) where
      -- the line does its order and then what is behind it, unless a cause stops it
      obeys_line : (behind : List ℕ → List ℕ → Done)
          → obeyed w source t (line_of (drop at s)) behind
          ≡ unless_stopped cause (order read.a read.b v) (behind (set_both w t read.a read.b v) (drop next s))
      unfolding obeyed
      obeys_line behind =
          ap (λ (l : Line). obeyed w source t l behind) (read.reads ∙ ap (line read.a read.b v) (sym read.follows))
          ∙ ap (λ (n : ℕ). unless_stopped n (order read.a read.b v) (behind (set_both w t read.a read.b v) (drop next s)))
          (sym (ec ∙ cause_capped t x y read.a read.b k.most read.caps))

      -- a cause stops the import, and the table stays
      pub order_stops : (cause ≡ 0 → ⊥) → Stops w source s at t t cause
      unfolding unless_stopped
      order_stops n = record { obeys = λ behind. obeys_line behind ∙ go cause n _ _; caused = omega arith; kept = refl }
        where
          go : (m : ℕ) → (m ≡ 0 → ⊥) → (o : Order) (d : Done) → unless_stopped m o d ≡ done [] m
          go zero n o d = absurd (n refl)
          go (suc m) n o d = refl

    -- as a `?` hands the cause e on in r
    pub order_refused : (x y : ℕ) (v : Bool) (next : ℕ) → LineAt s at x y v next → (e : Cause) → number e ≡ first_refusal (order_checks w source t x y)
        → Table w t → (r : Result ℕ Cause) → IsErrAnd r (λ q. q ≡ e) → ObeyedAs w source s at t t r
    order_refused x y v next read e q k r h =
        let p = err_from_is_err_and r h in
        rw (p.1, p.2) (order_stops x y v next read (number e) q k (number_above e))

    module _ (x y : ℕ) (v : Bool) (next : ℕ) (read : LineAt s at x y v next) (e : 0 ≡ first_refusal (order_checks w source t x y)) (k : Table w t) where
      -- without one the table holds both groups
      pub order_ranges : Whole w t x y
      order_ranges = let l = clear (order_checks w source t x y) 0 e refl tt in record { table = k; row = omega arith; group = omega arith }

      -- and the line is carried out, once the order is written
      pub order_goes : (t₁ : List ℕ) → t₁ ≡ set_both w t x y v → Goes w source s at t t₁ next
      unfolding apply
      order_goes t₁ et =
          let l = clear (order_checks w source t x y) 0 e refl tt in
          let p : x ≡ capped read.a = read.caps.0 in
          let q : y ≡ capped read.b = read.caps.1 in
          let h = k.most in
          let ea : x ≡ read.a = omega arith in
          let eb : y ≡ read.b = omega arith in
          let g : t₁ ≡ set_both w t read.a read.b v = et ∙ ap (λ (m : ℕ). set_both w t m y v) ea ∙ ap (λ (m : ℕ). set_both w t read.a m v) eb in
          record {
            order = order read.a read.b v;
            obeys = λ behind.
                obeys_line x y v next read 0 e k behind
                ∙ ap (λ (u : List ℕ). unless_stopped 0 (order read.a read.b v) (behind u (drop next s))) (sym g);
            applied = g;
            sized = ap length et ∙ length-set_both w t x y v ∙ k.sized;
            later = read.later;
            within = read.within;
          }

  -- ---- the loop

  -- what was done before, and then d
  abbrev before : List Order → Done → Done
  before os (done ps cause) = done (os ++ ps) cause

  -- an order carried out counts to what was done before
  before_step : (os : List Order) (o : Order) (d : Done) → before os (unless_stopped 0 o d) ≡ before (os ++ (o ∷ [])) d
  unfolding unless_stopped
  before_step os o (done ps cause) = ap (λ (l : List Order). done l cause) (sym (append_assoc os (o ∷ []) ps))

  -- at line `lines` + 1, which starts at `at`: the orders so far made t of t₀, and what is left to do is what the lines from there on do
  pub record Importing (s t₀ t : List ℕ) (at lines : ℕ) : Type 0 where
    pub orders : List Order
    pub counted : lines ≡ length orders
    pub few : lines ≤ at
    pub applied : t ≡ apply w orders t₀
    pub table : Table w t
    pub within : at ≤ length s
    pub most : ℕ
    pub enough : length s ≤ at + most
    pub rest : import_lines w source (length s) t₀ s ≡ before orders (import_lines w source most t (drop at s))

  -- it holds before the first line
  pub import_start : (s t : List ℕ) → Table w t → Importing s t t 0 0
  unfolding apply
  import_start s t l = record {
    orders = [];
    counted = refl;
    few = omega arith;
    applied = refl;
    table = l;
    within = omega arith;
    most = length s;
    enough = omega arith;
    rest = sym (go (import_lines w source (length s) t s));
  }
    where
      go : (d : Done) → before [] d ≡ d
      go (done os cause) = refl

  -- the lines from `at` on, by one
  lines_step : (s t : List ℕ) (at most : ℕ) → at < length s
      → import_lines w source (suc most) t (drop at s) ≡ obeyed w source t (line_of (drop at s)) (import_lines w source most)
  unfolding import_lines
  lines_step s t at most h = rw (text_at s at h)

  -- past the end nothing is left to do
  lines_out : (s t : List ℕ) (at most : ℕ) → length s ≤ at → import_lines w source most t (drop at s) ≡ done [] 0
  unfolding import_lines
  lines_out s t at zero h = refl
  lines_out s t at (suc most) h = rw (text_out s at h)

  module _ (s t₀ t t₁ : List ℕ) (at lines : ℕ) (h : at < length s) (i : Importing s t₀ t at lines) where
    -- so there is one line more to read
    stepped : (m : ℕ) → i.most ≡ m → import_lines w source (length s) t₀ s
        ≡ before i.orders (obeyed w source t (line_of (drop at s)) (import_lines w source (m - 1)))
    stepped zero e = let n = i.enough in absurd (omega arith)
    stepped (suc m) e =
        let p : m ≡ suc m - 1 = omega arith in
        i.rest ∙ ap (λ (n : ℕ). before i.orders (import_lines w source n t (drop at s))) e
        ∙ ap (before i.orders) (lines_step s t at m h)
        ∙ ap (λ (n : ℕ). before i.orders (obeyed w source t (line_of (drop at s)) (import_lines w source n))) p

    -- a line that is carried out leads to the next
    pub import_again : (next : ℕ) → Goes w source s at t t₁ next → Importing s t₀ t₁ next (lines + 1)
    import_again next k =
        let l = k.later in
        let n = i.enough in
        let f = i.few in
        let c = i.counted in
        record {
          orders = i.orders ++ (k.order ∷ []);
          counted = ap (λ (m : ℕ). m + 1) c ∙ sym (length-append i.orders (k.order ∷ []));
          few = omega arith;
          applied = k.applied ∙ ap (apply w (k.order ∷ [])) i.applied ∙ sym (apply-append w i.orders (k.order ∷ []) t₀);
          table = record { some = i.table.some; most = i.table.most; sized = k.sized };
          within = k.within;
          most = i.most - 1;
          enough = omega arith;
          rest =
              stepped i.most refl
              ∙ ap (before i.orders) (k.obeys (import_lines w source (i.most - 1)))
              ∙ before_step i.orders k.order (import_lines w source (i.most - 1) t₁ (drop next s));
        }

    -- which leaves less of the sheet
    pub import_less : (next : ℕ) → Goes w source s at t t₁ next → length s - next < length s - at
    import_less next k =
        let l = k.later in
        omega arith

    -- a line that fails ends the import with its number
    pub import_stop : (cause : Cause) → Stops w source s at t t₁ (number cause)
        → Leaves w (import_lines w source (length s) t₀ s) t₀ (Ok (Stopped (lines + 1) cause)) t₁
    import_stop cause k =
        ends i.orders (number cause) refl k.caused i.counted
        (stepped i.most refl ∙ ap (before i.orders) (k.obeys (import_lines w source (i.most - 1)))
        ∙ ap (λ (l : List Order). done l (number cause)) (append-nil i.orders))
        (k.kept ∙ i.applied)
      where
        ends : (os : List Order) (n : ℕ) → number cause ≡ n → 0 < n → lines ≡ length os → import_lines w source (length s) t₀ s ≡ done os n
            → t₁ ≡ apply w os t₀ → Leaves w (import_lines w source (length s) t₀ s) t₀ (Ok (Stopped (lines + 1) cause)) t₁
        ends os zero e p c q a = absurd (omega arith)
        ends os (suc n) e p c q a =
            let c' : lines + 1 ≡ suc (length os) = omega arith in
            rw q (record { answered = ap₂ (λ (m k : ℕ). answer (m ∷ k ∷ [])) c' e; applied = a })

  -- at the end of the sheet the import ends with the number of lines
  pub import_end : (s t₀ t : List ℕ) (at lines : ℕ) → length s ≤ at → Importing s t₀ t at lines → Leaves w (import_lines w source (length s) t₀ s) t₀ (Ok (WholeOf lines)) t
  import_end s t₀ t at lines h i =
      let q : import_lines w source (length s) t₀ s ≡ done i.orders 0 =
      i.rest ∙ ap (before i.orders) (lines_out s t at i.most h) ∙ ap (λ (l : List Order). done l 0) (append-nil i.orders) in
      ends i.orders i.counted q i.applied
    where
      ends : (os : List Order) → lines ≡ length os → import_lines w source (length s) t₀ s ≡ done os 0 → t ≡ apply w os t₀
          → Leaves w (import_lines w source (length s) t₀ s) t₀ (Ok (WholeOf lines)) t
      ends os c q a = rw q (record { answered = ap (λ (m : ℕ). answer (m ∷ [])) c; applied = a })

-- ---- the call
module _ (w : ℕ) (phys : List ℕ) (phy carried : ℕ) (t : List ℕ) (size : ℕ) (e : 0 ≡ first_refusal (import_checks w phys t phy carried size)) where
  -- where nothing is refused, the phy is there
  pub import_there : phy < phy_count phys
  import_there = (arrival_clear phys phy (permissions_sized w t) (leb size sheet_most) true _ 0 e refl tt).0.there

  -- the lines may be read
  pub import_ready : Width w → Table w t × (size ≤ sheet_most)
  import_ready h =
      let k = arrival_clear phys phy (permissions_sized w t) (leb size sheet_most) true _ 0 e refl tt in
      (table_sized w t h k.0.sized, leb-true _ _ k.0.roomy)

  -- and it is a group that speaks: g is who does, as the code found it
  pub import_spoken : {A : Type 0} (g : Option ZoneGroup) → g ≡ smp_source phys phy carried → g ≡ None → A
  import_spoken g eg n =
      let k = arrival_clear phys phy (permissions_sized w t) (leb size sheet_most) true _ 0 e refl tt in
      never (sym k.1.0 ∙ taken_none eg n)

-- what the lines did is what the call gives
pub import_gives : (w : ℕ) (phys : List ℕ) (phy carried : ℕ) (s t t₁ : List ℕ) (n : ℕ) (q : Imported) (g : Option ZoneGroup) (source : ZoneGroup) → 0 ≡ n
    → g ≡ smp_source phys phy carried → g ≡ Some source → Leaves w (import_lines w (Some source) (length s) t s) t (Ok q) t₁
    → out (imported_as (Ok q)) (t₁ ∷ [])
    ≡ outcome n (done_values (imports w phys t phy carried s)) (t ∷ []) (apply w (done_orders (imports w phys t phy carried s)) t ∷ [])
import_gives w phys phy carried s t t₁ n q g source e eg en l =
    rw (sym eg ∙ en) (gives _ _ n _ _ _ e l.answered (ap (λ (u : List ℕ). u ∷ []) l.applied))
