-- The lines that an import accepts are single orders: each names two groups that an order may name, and the table is what they make of it in turn.
-- Assumes nothing.
use mathlib.Core.Path.{◌≡◌, refl}
use mathlib.Core.Bool.{Bool, true, false, cond}
use mathlib.Core.List.{List, [], ◌∷◌}
use Prim.Native.Nat.{ℕ, zero, suc}
use native.Mathlib.Omega.{arith}
use borrow.Author.Tests.{ne_eqb}
use lib.Dec.{eqb}
use lib.ListN.{length}
use Rattle.std.proofs.Common.{Option}
use Rattle.wire.specs.declared.ZoneGroup.{ZoneGroup}
use Rattle.permit.specs.Permission.{set_both}
use Rattle.permit.specs.Orders.{order, apply}
use Rattle.permit.specs.History.{Valid}
use Rattle.tables.specs.Refusals.{first_refusal}
use Rattle.tables.specs.Outcome.{Answer, out, outcome}
use Rattle.tables.proofs.RefusalLaws.{clear}
use Rattle.requests.specs.Requests.{smp_source}
use Rattle.sheet_lines.specs.Line.{Line, line, bad, line_of}
use Rattle.imports.specs.Import.{import_checks, order_checks, Done, done, unless_stopped, obeyed, import_lines, imports, done_orders, done_values, import_out, import_orders}

module _ (w : ℕ) (source : Option ZoneGroup) where
  -- an order that is carried out names two such groups
  valid_order : (a b : ℕ) (v : Bool) (t : List ℕ) (n : ℕ) → n ≡ first_refusal (order_checks w source t a b) → (d : Done) → Valid w (done_orders d)
      → Valid w (done_orders (unless_stopped n (order a b v) d))
  unfolding unless_stopped
  valid_order a b v t zero e (done os cause) h =
      let k = clear (order_checks w source t a b) 0 e refl tt in
      (((omega arith, omega arith), (omega arith, omega arith)), h)
  valid_order a b v t (suc n) e d h = tt

  -- so does each order of a line and of the lines behind it
  valid_line : (t : List ℕ) (l : Line) (behind : List ℕ → List ℕ → Done) → ((u s : List ℕ) → Valid w (done_orders (behind u s)))
      → Valid w (done_orders (obeyed w source t l behind))
  unfolding obeyed
  valid_line t bad behind h = tt
  valid_line t (line a b v rest) behind h =
      valid_order a b v t (first_refusal (order_checks w source t a b)) refl (behind (set_both w t a b v) rest) (h (set_both w t a b v) rest)

  -- and each order of any number of lines
  pub valid_lines : (most : ℕ) (t s : List ℕ) → Valid w (done_orders (import_lines w source most t s))
  unfolding import_lines
  valid_lines zero t s = tt
  valid_lines (suc most) t [] = tt
  valid_lines (suc most) t (c ∷ s) = valid_line t (line_of (c ∷ s)) (import_lines w source most) (valid_lines most)

-- every order that the call accepts names two groups that an order may name
pub valid_orders : (w : ℕ) (phys t : List ℕ) (phy carried : ℕ) (sheet : List ℕ) → Valid w (import_orders w phys t phy carried sheet)
unfolding import_orders
valid_orders w phys t phy carried sheet = go (eqb (first_refusal (import_checks w phys t phy carried (length sheet))) 0)
  where
    go : (b : Bool) → Valid w (cond b (done_orders (imports w phys t phy carried sheet)) [])
    go true = valid_lines w (smp_source phys phy carried) (length sheet) t sheet
    go false = tt

-- two outcomes of one buffer that are the same leave the same in it
out_one : (a b : Answer) (x y : List ℕ) → out a (x ∷ []) ≡ out b (y ∷ []) → y ≡ x
out_one a b x y e = cc

-- the table after the call is the table before it with the accepted orders applied
pub orders_applied : (w : ℕ) (phys t : List ℕ) (phy carried : ℕ) (sheet : List ℕ) (a : Answer) (t₁ : List ℕ)
    → import_out w phys t phy carried sheet ≡ out a (t₁ ∷ []) → t₁ ≡ apply w (import_orders w phys t phy carried sheet) t
unfolding import_orders outcome apply
orders_applied w phys t phy carried sheet a t₁ = go (first_refusal (import_checks w phys t phy carried (length sheet)))
  where
    go : (n : ℕ)
        → outcome n (done_values (imports w phys t phy carried sheet)) (t ∷ []) (apply w (done_orders (imports w phys t phy carried sheet)) t ∷ [])
        ≡ out a (t₁ ∷ [])
        → t₁ ≡ apply w (cond (eqb n 0) (done_orders (imports w phys t phy carried sheet)) []) t
    go zero e = out_one _ a _ t₁ e
    go (suc n) e = rw (ne_eqb (suc n) 0 (λ z. omega arith)) (out_one _ a _ t₁ e)
