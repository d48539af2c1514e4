-- What the steps of an import do.
use Rattle.std.specs.Prelude.{◌≡◌, List, [], ◌∷◌, ℕ, ◌≤◌, ◌<◌, length, drop, Option, Result, Ok, Err}
use Rattle.wire.specs.declared.ZoneGroup.{ZoneGroup}
use Rattle.permit.specs.Permission.{table_size}
use Rattle.permit.specs.Orders.{Order, apply}
use Rattle.tables.specs.Outcome.{answer}
use Rattle.tables.specs.declared.refusal.Refusal.{Refusal}
use Rattle.sheet_lines.specs.Line.{line_of}
use Rattle.imports.specs.Import.{Done, done, unless_stopped, obeyed, done_values, done_orders, imported_as}
use Rattle.imports.specs.declared.Imported.{Imported}
use Rattle.imports.specs.declared.cause.Cause.{Cause}
use Rattle.imports.specs.Causes.{number}

-- the line at `at` is carried out: what it does is its order, and then what the lines behind it do
pub record Goes (w : ℕ) (source : Option ZoneGroup) (s : List ℕ) (at : ℕ) (t t₁ : List ℕ) (next : ℕ) : Type 0 where
  pub order : Order
  pub obeys : (behind : List ℕ → List ℕ → Done) → obeyed w source t (line_of (drop at s)) behind ≡ unless_stopped 0 order (behind t₁ (drop next s))
  pub applied : t₁ ≡ apply w (order ∷ []) t
  pub sized : length t₁ ≡ table_size w
  pub later : at < next
  pub within : next ≤ length s

-- or it stops the import, whatever is behind it
pub record Stops (w : ℕ) (source : Option ZoneGroup) (s : List ℕ) (at : ℕ) (t t₁ : List ℕ) (cause : ℕ) : Type 0 where
  pub obeys : (behind : List ℕ → List ℕ → Done) → obeyed w source t (line_of (drop at s)) behind ≡ done [] cause
  pub caused : 0 < cause
  pub kept : t₁ ≡ t

abbrev pub ObeyedAs : ℕ → Option ZoneGroup → List ℕ → ℕ → List ℕ → List ℕ → Result ℕ Cause → Type 0
ObeyedAs w source s at t t₁ (Ok next) = Goes w source s at t t₁ next
ObeyedAs w source s at t t₁ (Err cause) = Stops w source s at t t₁ (number cause)

-- what d says, answered and done
pub record Leaves (w : ℕ) (d : Done) (t : List ℕ) (r : Result Imported Refusal) (t₁ : List ℕ) : Type 0 where
  pub answered : imported_as r ≡ answer (done_values d)
  pub applied : t₁ ≡ apply w (done_orders d) t
