-- `sheet_lines::short_at` meets its contract.
use Rattle.sheet_lines.proofs.LineLaws.{figured, short_one, short_two, short_three}
use mathlib.Core.Path.{sym, ◌∙◌}
use native.Mathlib.Omega.{arith}
use Rattle.sheet_lines.proofs.short_at.Goals as goal

pub figure_value-one-requires : goal.figure_value-one-requires
figure_value-one-requires c = search figured

pub returns-then-d-eq44 : goal.returns-then-d-eq44
returns-then-d-eq44 c =
    short_one _ _ _ c.requires (sym c.if-not-is_figure.false ∙ c.is_figure.ensures) c.if-c-lt49.false c.figure_value-one.ensures c.if-d-eq44.true

pub more-two-requires : goal.more-two-requires
more-two-requires c = (omega arith, search figured)

pub returns-then-e-eq44 : goal.returns-then-e-eq44
returns-then-e-eq44 c =
    short_two _ _ _ c.requires (sym c.if-not-is_figure.false ∙ c.is_figure.ensures) c.if-c-lt49.false c.figure_value-one.ensures _ (sym c.if-not-is_figure-2.false ∙ c.is_figure-2.ensures) c.more-two.ensures c.if-e-eq44.true

pub more-three-requires : goal.more-three-requires
more-three-requires c = (omega arith, search figured)

pub returns : goal.returns
returns c =
    short_three _ _ _ c.requires (sym c.if-not-is_figure.false ∙ c.is_figure.ensures) c.if-c-lt49.false c.figure_value-one.ensures _ (sym c.if-not-is_figure-2.false ∙ c.is_figure-2.ensures) c.more-two.ensures _ (sym c.if-not-is_figure-3.false ∙ c.is_figure-3.ensures) c.more-three.ensures c.if-sheet-fourth-ne44.false
